-- The kind with a number, found in a list of named kinds.
use Rattle.std.proofs.Common.{◌≡◌, ℕ, Bool, true, false, not, eqb, List, [], ◌∷◌, Some, None, refl, subst, inl, inr}
use Rattle.std.specs.List.{list_all}
use Rattle.std.proofs.lemmas.Bool.{cases_Bool, eqb-true, and_parts}
use Rattle.wtp_wire.specs.Kind.{is_exercise}
use Rattle.wtp_wire.specs.Named.{kind_by}
use Rattle.wtp_wire.proofs.KindLemmas.{which}

some_is : {K : Type 0} (x y : K) → Some x ≡ Some y → x ≡ y
some_is x y e = cc

-- no named kind has a reserved number
abbrev pub AreApart : {K : Type 0} → (K → ℕ) → List K → Type 0
AreApart number ks = list_all (λ k. not (is_exercise (number k))) ks ≡ true

pub kind_by-exercise : {K : Type 0} (number : K → ℕ) (exercise : ℕ → K) (ks : List K) (id : ℕ) → AreApart number ks → is_exercise id ≡ true → kind_by number exercise ks id ≡ Some (exercise id)
kind_by-exercise number exercise [] id apart t = rw t refl
kind_by-exercise number exercise (k ∷ ks) id apart t =
    let parts = and_parts (not (is_exercise (number k))) (list_all (λ x. not (is_exercise (number x))) ks) apart in
    elim (cases_Bool (eqb id (number k))) [
      | inl same ↦
          let e : id ≡ number k = eqb-true id (number k) same in
          let reserved : is_exercise (number k) ≡ true = rw e at t in
          absurd (clash (is_exercise (number k)) reserved parts.0)
      | inr other ↦ rw other (kind_by-exercise number exercise ks id parts.1 t)
    ]
  where
    clash : (b : Bool) → b ≡ true → not b ≡ true → ⊥
    clash true e n = cc
    clash false e n = cc

-- the kind that was found is related to the number, where each named kind is to its own and each
-- exercise kind to its own
pub is-kind_by : {K : Type 0} (number : K → ℕ) (exercise : ℕ → K) (R : K → ℕ → Type 0) (named : K → Bool)
    → ((k : K) (id : ℕ) → named k ≡ true → id ≡ number k → R k id) → ((id : ℕ) → is_exercise id ≡ true → R (exercise id) id)
    → (ks : List K) → list_all named ks ≡ true → (k : K) (id : ℕ) → kind_by number exercise ks id ≡ Some k → R k id
is-kind_by number exercise R named of_named of_exercise [] all k id e = elim (which (is_exercise id) (Some (exercise id)) None (Some k) e) [
  | inl p ↦ subst (λ x. R x id) (some_is (exercise id) k p.1) (of_exercise id p.0)
  | inr p ↦ absurd cc
]
is-kind_by number exercise R named of_named of_exercise (j ∷ js) all k id e =
    let parts = and_parts (named j) (list_all named js) all in
    elim (which (eqb id (number j)) (Some j) _ (Some k) e) [
      | inl p ↦ subst (λ x. R x id) (some_is j k p.1) (of_named j id parts.0 (eqb-true id (number j) p.0))
      | inr p ↦ is-kind_by number exercise R named of_named of_exercise js parts.1 k id p.1
    ]
