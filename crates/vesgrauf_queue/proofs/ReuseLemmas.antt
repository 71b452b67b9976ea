-- The last block is empty again once nothing of it is kept.
use Rattle.std.proofs.Common.{◌≡◌, ◌≢◌, inl, inr, ℕ, zero, suc, ◌+◌, ◌-◌, ◌<◌, ◌≤◌, List, [], ◌∷◌, ◌++◌, length, take, refl, sym, ap, ◌∙◌, subst, arith, get_or, length-drop, length-take}
use Rattle.std.proofs.lemmas.List.{drop_all, get_or-drop}
use Rattle.vesgrauf_queue.specs.Pieces.{first}
use Rattle.vesgrauf_queue.specs.Layout.{left_in, pieces_in, given_in, kept_in, IsLaid, Freed, Reuses}
use Rattle.vesgrauf_queue.proofs.FreeLemmas.{left-freed, length-freed}

-- all but that the last block, if it is the only one, has bytes that are needed
pub record IsNearlyLaid (sealed : List (List ℕ)) (last : List ℕ) (lent used freed : ℕ) : Type 0 where
  pub few : lent ≤ length sealed
  pub filled : (k : ℕ) → k < length sealed → 0 < length (get_or sealed k [])
  pub within : used ≤ length (first (left_in sealed last lent))
  pub part : lent < length sealed → used < length (first (left_in sealed last lent))
  pub given : freed ≤ length (given_in sealed last lent used)
  pub needed : 0 < length sealed → 0 < freed → freed < length (first sealed)

first-two : (xs : List (List ℕ)) (last : List ℕ) → 0 < length xs → first (xs ++ last ∷ []) ≡ first xs
first-two [] last more = absurd (omega arith)
first-two (x ∷ xs) last more = refl

no-length : (xs : List (List ℕ)) → length xs ≤ 0 → xs ≡ []
no-length [] none = refl
no-length (x ∷ xs) none = absurd (omega arith)

-- of the only block
given-only : (last : List ℕ) (used : ℕ) → length (given_in [] last 0 used) ≤ length last
given-only last used = omega (arith, length-take used last)

module _ (last : List ℕ) (used freed : ℕ) where
  only-all : freed ≤ length (given_in [] last 0 used) → freed ≡ length last → length last ≤ used
  only-all given all = omega (arith, length-take used last)

  only-kept : freed ≡ length last → [] ≡ kept_in [] last 0 used freed
  only-kept all = sym (drop_all freed (take used last) (omega (arith, length-take used last)))

  only-pieces : freed ≤ length (given_in [] last 0 used) → freed ≡ length last → [] ∷ [] ≡ pieces_in [] last 0 used
  only-pieces given all = ap (λ b. b ∷ []) (sym (drop_all used last (only-all given all)))

pub laid-reused : (sealed : List (List ℕ)) (last : List ℕ) (lent used freed : ℕ) (new_last : List ℕ) (new_used new_freed : ℕ)
    → IsNearlyLaid sealed last lent used freed → Reuses sealed last used freed new_last new_used new_freed
    → IsLaid sealed new_last lent new_used new_freed
laid-reused sealed last lent used freed new_last new_used new_freed laid reuses = elim reuses [
  | inl e ↦
      let zero : 0 ≡ lent = omega (arith, laid.few, ap length e.0) in
      subst (λ (m : List (List ℕ)). IsLaid m new_last lent new_used new_freed) (sym e.0)
      (subst (λ (k : ℕ). IsLaid [] new_last k new_used new_freed) zero
      (subst (λ (o : List ℕ). IsLaid [] o 0 new_used new_freed) (sym e.2)
      (subst (λ (u : ℕ). IsLaid [] [] 0 u new_freed) (sym e.3)
      (subst (λ (f : ℕ). IsLaid [] [] 0 0 f) (sym e.4) empty))))
  | inr e ↦
      subst (λ (o : List ℕ). IsLaid sealed o lent new_used new_freed) (sym e.1)
      (subst (λ (u : ℕ). IsLaid sealed last lent u new_freed) (sym e.2)
      (subst (λ (f : ℕ). IsLaid sealed last lent used f) (sym e.3) (same e.0)))
]
  where
    empty : IsLaid [] [] 0 0 0
    empty = record {
      few = omega arith;
      filled = λ k h. absurd (omega arith);
      within = omega arith;
      part = λ h. absurd (omega arith);
      given = omega arith;
      needed = λ h. absurd (omega arith);
    }

    last-part : sealed ≡ [] → freed ≢ length last → freed < length (first (sealed ++ last ∷ []))
    last-part none other =
        let zero : lent ≡ 0 = omega (arith, laid.few, ap length none) in
        let given : freed ≤ length (given_in [] last 0 used) =
        subst (λ (k : ℕ). freed ≤ length (given_in [] last k used)) zero
        (subst (λ (m : List (List ℕ)). freed ≤ length (given_in m last lent used)) none laid.given) in
        omega (arith, given, given-only last used, other, ap (λ (m : List (List ℕ)). length (first (m ++ last ∷ []))) none)

    needed_at : (n : ℕ) → n ≡ length sealed → (sealed ≡ [] → freed ≢ length last) → 0 < freed → freed < length (first (sealed ++ last ∷ []))
    needed_at zero e other more = last-part (no-length sealed (omega arith)) (other (no-length sealed (omega arith)))
    needed_at (suc n) e other more =
        omega (arith, laid.needed (omega arith) more, ap length (first-two sealed last (omega arith)))

    same : (sealed ≡ [] → freed ≢ length last) → IsLaid sealed last lent used freed
    same other = record {
      few = laid.few;
      filled = laid.filled;
      within = laid.within;
      part = laid.part;
      given = laid.given;
      needed = needed_at (length sealed) refl other;
    }

pub kept-reused : (sealed : List (List ℕ)) (last : List ℕ) (lent used freed : ℕ) (new_last : List ℕ) (new_used new_freed : ℕ)
    → IsNearlyLaid sealed last lent used freed → Reuses sealed last used freed new_last new_used new_freed
    → kept_in sealed new_last lent new_used new_freed ≡ kept_in sealed last lent used freed
kept-reused sealed last lent used freed new_last new_used new_freed laid reuses = elim reuses [
  | inl e ↦
      let zero : lent ≡ 0 = omega (arith, laid.few, ap length e.0) in
      ap (λ (m : List (List ℕ)). kept_in m new_last lent new_used new_freed) e.0
      ∙ ap (λ (k : ℕ). kept_in [] new_last k new_used new_freed) zero
      ∙ ap (λ (o : List ℕ). kept_in [] o 0 new_used new_freed) e.2
      ∙ ap (λ (u : ℕ). kept_in [] [] 0 u new_freed) e.3
      ∙ ap (λ (f : ℕ). kept_in [] [] 0 0 f) e.4
      ∙ only-kept last used freed e.1
      ∙ ap (λ (k : ℕ). kept_in [] last k used freed) (sym zero)
      ∙ ap (λ (m : List (List ℕ)). kept_in m last lent used freed) (sym e.0)
  | inr e ↦
      ap (λ (o : List ℕ). kept_in sealed o lent new_used new_freed) e.1
      ∙ ap (λ (u : ℕ). kept_in sealed last lent u new_freed) e.2
      ∙ ap (λ (f : ℕ). kept_in sealed last lent used f) e.3
]

pub pieces-reused : (sealed : List (List ℕ)) (last : List ℕ) (lent used freed : ℕ) (new_last : List ℕ) (new_used new_freed : ℕ)
    → IsNearlyLaid sealed last lent used freed → Reuses sealed last used freed new_last new_used new_freed
    → pieces_in sealed new_last lent new_used ≡ pieces_in sealed last lent used
pieces-reused sealed last lent used freed new_last new_used new_freed laid reuses = elim reuses [
  | inl e ↦
      let zero : lent ≡ 0 = omega (arith, laid.few, ap length e.0) in
      let given : freed ≤ length (given_in [] last 0 used) =
      subst (λ (k : ℕ). freed ≤ length (given_in [] last k used)) zero
      (subst (λ (m : List (List ℕ)). freed ≤ length (given_in m last lent used)) e.0 laid.given) in
      ap (λ (m : List (List ℕ)). pieces_in m new_last lent new_used) e.0
      ∙ ap (λ (k : ℕ). pieces_in [] new_last k new_used) zero
      ∙ ap (λ (o : List ℕ). pieces_in [] o 0 new_used) e.2
      ∙ ap (λ (u : ℕ). pieces_in [] [] 0 u) e.3
      ∙ only-pieces last used freed given e.1
      ∙ ap (λ (k : ℕ). pieces_in [] last k used) (sym zero)
      ∙ ap (λ (m : List (List ℕ)). pieces_in m last lent used) (sym e.0)
  | inr e ↦
      ap (λ (o : List ℕ). pieces_in sealed o lent new_used) e.1
      ∙ ap (λ (u : ℕ). pieces_in sealed last lent u) e.2
]

-- ---- blocks were freed before

pub nearly-freed : (sealed new : List (List ℕ)) (last : List ℕ) (lent used before len still_lent still_freed : ℕ)
    → IsLaid sealed last lent used before → before + len ≤ length (given_in sealed last lent used)
    → Freed sealed lent (before + len) new still_lent still_freed
    → IsNearlyLaid new last still_lent used still_freed
nearly-freed sealed new last lent used before len still_lent still_freed laid within f = record {
  few = few;
  filled = λ k h. subst (λ (m : List (List ℕ)). 0 < length (get_or m k [])) (sym f.rest)
      (subst (λ (x : List ℕ). 0 < length x) (sym (get_or-drop (lent - still_lent) sealed k []))
      (laid.filled (lent - still_lent + k) (omega (arith, laid.few, f.few, size))));
  within = omega (arith, laid.within, ap length left);
  part = part;
  given = given;
  needed = λ more some. elim_lent still_lent refl more;
}
  where
    size : length new ≡ length sealed - (lent - still_lent)
    size = ap length f.rest ∙ length-drop (lent - still_lent) sealed

    few : still_lent ≤ length new
    few = omega (arith, laid.few, f.few, size)

    left : first (left_in new last still_lent) ≡ first (left_in sealed last lent)
    left = ap (λ xs. first (xs ++ last ∷ [])) (left-freed sealed new lent (before + len) still_lent still_freed f)

    part : still_lent < length new → used < length (first (left_in new last still_lent))
    part h = omega (arith, laid.part (omega (arith, laid.few, f.few, size)), ap length left)

    given : still_freed ≤ length (given_in new last still_lent used)
    given = omega (arith, within, length-freed sealed new last lent used (before + len) still_lent still_freed f, f.bytes)

    given-start : length (given_in new last 0 used) ≤ used
    given-start = omega (arith, length-take used (first (new ++ last ∷ [])))

    elim_lent : (k : ℕ) → k ≡ still_lent → 0 < length new → still_freed < length (first new)
    elim_lent (suc k) e more = f.needed (omega arith)
    elim_lent zero e more =
        let from : still_freed ≤ length (given_in new last 0 used) = subst (λ (j : ℕ). still_freed ≤ length (given_in new last j used)) (sym e) given in
        let end : used < length (first (left_in new last 0)) =
        subst (λ (j : ℕ). used < length (first (left_in new last j))) (sym e) (part (omega arith)) in
        omega (arith, from, given-start, end, ap length (first-two new last more))
