-- What a caller cites after a write through what `get_mut` lends.
use Rattle.std.proofs.Common.{◌≡◌, ℕ, List, [], ◌∷◌, cond, Some, None, refl, ap, ◌∙◌, inl, inr, nat_cmp}
use Rattle.std.specs.BTreeMap.{is_at}
use Rattle.std.specs.Cmp.{eq_by_cmp_equiv, nat_cmp_total}
use Rattle.std.proofs.lemmas.Map.{lookup-set_value, length-set_value}
use Rattle.std.specs.Map.{lookup, set_value}
use Rattle.vesgrauf_streams.specs.Streams.{Streams, Updates, WritesThrough, get, with_value}
use Rattle.vesgrauf_streams.proofs.PlaceLemmas.{same_id, own_id, true_or_false}

module _ {V : Type 0} where
  pub written : (m : Streams V) (id : ℕ) (v w : V) → get m id ≡ Some v → Updates m (with_value m id w) id (Some w)
  written m id v w has = (
    is,
    is id ∙ rw (own_id id) refl,
    λ q other. is q ∙ rw other refl,
  )
    where
      is : (q : ℕ) → get (with_value m id w) q ≡ cond (is_at (nat_cmp id) q) (Some w) (get m q)
      is q = lookup-set_value (eq_by_cmp_equiv nat_cmp_total) (is_at (nat_cmp id))
          (λ x y t. ap (λ (n : ℕ). is_at (nat_cmp n) y) (same_id id x t)) q w m.entries (rw has refl)

  pub none_set : (id : ℕ) (es : List (ℕ × V)) (w : V) → lookup (is_at (nat_cmp id)) es ≡ None
      → es ≡ set_value (is_at (nat_cmp id)) es w
  none_set id [] w none = refl
  none_set id (e ∷ es) w none = elim (true_or_false (is_at (nat_cmp id) e.0)) [
    | inl same ↦ let n = rw same at none in absurd (cc n)
    | inr other ↦ rw other (ap (λ (l : List (ℕ × V)). e ∷ l) (none_set id es w (rw other at none)))
  ]

  pub through : (m : Streams V) (id : ℕ) (v w : V) → get m id ≡ Some v → WritesThrough m id w (with_value m id w)
  through m id v w has = (
    refl,
    length-set_value (is_at (nat_cmp id)) m.entries w,
    λ some. written m id v w has,
  )

  pub through_none : (m : Streams V) (id : ℕ) (w : V) → get m id ≡ None → WritesThrough m id w m
  through_none m id w none = (none_set id m.entries w none, refl, λ some. absurd (cc (some, none)))
