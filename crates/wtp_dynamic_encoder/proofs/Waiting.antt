-- Few streams may be blocked: the list of those that may is no longer than one with all of them.
use Rattle.std.proofs.Common.{◌≡◌, ◌⊎◌, inl, inr, ℕ, suc, ◌≤◌, ◌==◌, nat_lt, not, Bool, true, false, cond, ◌&&◌, List, [], ◌∷◌, length, refl, sym, ap, subst, ◌∙◌, arith, eq-eqb}
use Rattle.wtp_dynamic.specs.declared.ledger.Sent.{Sent}
use Rattle.wtp_dynamic.specs.EncoderState.{may_wait, waiting_streams, IsAmong, FewWait}
use Rattle.wtp_dynamic_encoder.proofs.Kept.{both, or_second, waiting_has}

-- each is there once
abbrev AreDistinct : List ℕ → Type 0
AreDistinct [] = Unit {0}
AreDistinct (x ∷ xs) = (¬ (IsAmong x xs)) × AreDistinct xs

-- the others, without one of them
abbrev Without : ℕ → List ℕ → Type 0
Without x ys = (zs : List ℕ) × (length ys ≡ suc (length zs)) × ((s : ℕ) → IsAmong s ys → (s ≡ x) ⊎ IsAmong s zs)

pick : (x : ℕ) (ys : List ℕ) → IsAmong x ys → Without x ys
pick x [] among = absurd among
pick x (y ∷ ys) (inl here) = (ys, refl, λ s among. elim among [ inl first ↦ inl (first ∙ sym here) | inr later ↦ inr later ])
pick x (y ∷ ys) (inr there) =
    let (zs, size, rest) = pick x ys there in (
      y ∷ zs,
      ap suc size,
      λ s among. elim among [
        | inl first ↦ inr (inl first)
        | inr later ↦ elim (rest s later) [ inl same ↦ inl same | inr other ↦ inr (inr other) ]
      ],
    )

fewer : (xs ys : List ℕ) → AreDistinct xs → ((s : ℕ) → IsAmong s xs → IsAmong s ys) → length xs ≤ length ys
fewer [] ys distinct all = omega arith
fewer (x ∷ xs) ys (new, distinct) all =
    let (zs, size, rest) = pick x ys (all x (inl refl)) in
    let less : length xs ≤ length zs = fewer xs zs distinct (λ s among. elim (rest s (all s (inr among))) [
      | inl same ↦ absurd (new (subst (λ (z : ℕ). IsAmong z xs) same among))
      | inr other ↦ other
    ]) in
    omega (arith, size, less)

-- what is listed may be blocked
listed_waits : (known s : ℕ) (xs : List Sent) → IsAmong s (waiting_streams known xs) → may_wait known s xs ≡ true
listed_waits known s [] among = absurd among
listed_waits known s (x ∷ xs) among = by (nat_lt known x.required && not (may_wait known x.stream xs)) refl among (λ there. listed_waits known s xs there)
  where
    by : (b : Bool) → (nat_lt known x.required && not (may_wait known x.stream xs)) ≡ b → IsAmong s (cond b (x.stream ∷ waiting_streams known xs) (waiting_streams known xs)) → (IsAmong s (waiting_streams known xs) → may_wait known s xs ≡ true) → may_wait known s (x ∷ xs) ≡ true
    by true is (inl here) later =
        let two = both (nat_lt known x.required) (not (may_wait known x.stream xs)) is in
        rw (two.0, eq-eqb x.stream s (sym here)) refl
    by true is (inr there) later = or_second (nat_lt known x.required && x.stream == s) (may_wait known s xs) (later there)
    by false is there later = or_second (nat_lt known x.required && x.stream == s) (may_wait known s xs) (later there)

not_true : (b : Bool) → not b ≡ true → b ≡ true → ⊥
not_true true e f = cc e
not_true false e f = cc f

listed_once : (known : ℕ) (xs : List Sent) → AreDistinct (waiting_streams known xs)
listed_once known [] = tt
listed_once known (x ∷ xs) = by (nat_lt known x.required && not (may_wait known x.stream xs)) refl (listed_once known xs)
  where
    by : (b : Bool) → (nat_lt known x.required && not (may_wait known x.stream xs)) ≡ b → AreDistinct (waiting_streams known xs) → AreDistinct (cond b (x.stream ∷ waiting_streams known xs) (waiting_streams known xs))
    by true is distinct = (λ among. not_true (may_wait known x.stream xs) (both (nat_lt known x.required) (not (may_wait known x.stream xs)) is).1 (listed_waits known x.stream xs among), distinct)
    by false is distinct = distinct

pub few_listed : (most known : ℕ) (xs : List Sent) → FewWait most known xs → length (waiting_streams known xs) ≤ most
few_listed most known xs (streams, few, all) =
    let less : length (waiting_streams known xs) ≤ length streams = fewer (waiting_streams known xs) streams (listed_once known xs) (λ s among. all s (listed_waits known s xs among)) in
    omega (arith, less, few)

pub listed_few : (most known : ℕ) (xs : List Sent) → length (waiting_streams known xs) ≤ most → FewWait most known xs
listed_few most known xs few = (waiting_streams known xs, few, λ stream waits. waiting_has known stream xs waits)
