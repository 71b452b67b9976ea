-- The first stream from an ID on.
use Rattle.std.proofs.Common.{◌≡◌, ℕ, ◌≤◌, List, ◌∷◌, [], Option, None, Some, IsSome, refl, sym, subst, ◌∙◌, arith, nat_cmp, is_gt, false, BTreeMap}
use Rattle.std.specs.BTreeMap as tree
use Rattle.std.specs.BTreeMap.Range.{IsRangeOf}
use Rattle.std.specs.declared.ops.Bound.TheVariants.{Included, Unbounded}
use Rattle.std.proofs.lemmas.Map.Keys.{le_from_not_gt}
use Rattle.vesgrauf_streams.specs.declared.slots.Slot.{Slot}
use Rattle.vesgrauf_streams.specs.Slots.{value_at, IsIndex}
use Rattle.vesgrauf_streams.specs.Streams.{get, HasNoneFrom, IsFirstFrom}
use Rattle.vesgrauf_streams.proofs.IndexLemmas.{streams, looks}

not_gt : (a b : ℕ) → a ≤ b → is_gt (nat_cmp a b) ≡ false
not_gt a b le = grind (arith, le)

module _ {V : Type 0} (slots : List (Slot V)) (index : BTreeMap ℕ ℕ) (is : IsIndex slots index) where
  pub none_from : (from : ℕ) (r : List (ℕ × ℕ)) → IsRangeOf nat_cmp (Included from) Unbounded index r → r ≡ []
      → HasNoneFrom (streams slots) from
  none_from from r range none q le = looks slots index is None q (sym (range.5 none q (not_gt from q le, tt)))

  in_index : (q : ℕ) → IsSome (get (streams slots) q) → IsSome (tree.get nat_cmp index q)
  in_index q some = by (tree.get nat_cmp index q) refl
    where
      by : (o : Option ℕ) → o ≡ tree.get nat_cmp index q → IsSome (tree.get nat_cmp index q)
      by None e = cc (some, looks slots index is None q e)
      by (Some i) e = rw (sym e) refl

  pub first_from : (from id i : ℕ) (v : V) (r rest : List (ℕ × ℕ))
      → IsRangeOf nat_cmp (Included from) Unbounded index r → r ≡ (id, i) ∷ rest
      → value_at slots i ≡ Some v → IsFirstFrom (streams slots) from id v
  first_from from id i v r rest range e at =
      let all : IsRangeOf nat_cmp (Included from) Unbounded index ((id, i) ∷ rest) = subst
      (λ (l : List (ℕ × ℕ)). IsRangeOf nat_cmp (Included from) Unbounded index l) e range in
      record {
        there = looks slots index is (Some i) id (sym all.1.1) ∙ at;
        within = le_from_not_gt from id all.1.0.0;
        first = λ q le some. le_from_not_gt id q (all.2 q (not_gt from q le, tt) (in_index q some));
      }
