-- Requests that are answered, and requests that are reset before their answer.
use Rattle.std.proofs.Common.{◌≡◌, ℕ, zero, suc, ◌+◌, ◌^◌, ◌<◌, ◌≤◌, true, List, [], ◌∷◌, length, take, refl, sym, ap, ◌∙◌, arith, inl, inr}
use Rattle.std.proofs.lemmas.Bool.{cases_lt, le-ltb, lt-ltb}
use Rattle.wtp_connection.specs.declared.budget.RequestBudget.{RequestBudget}
use Rattle.wtp_connection.specs.Budget.{budget_of, is_exceeded, with_answer, with_reset, Fate, Answered, Reset, with_fate, after_all, answers_in, resets_in}

abbrev budget : ℕ → ℕ → ℕ → RequestBudget
budget a r x = record { answers = a; resets = r; excess = x }

-- ---- too many were reset

kept_by : (f : Fate) (b : RequestBudget) → is_exceeded b ≡ true → with_fate b f ≡ b
kept_by Answered b e = rw e refl
kept_by Reset b e = rw e refl

pub all_kept : (b : RequestBudget) (fates : List Fate) → is_exceeded b ≡ true → after_all b fates ≡ b
all_kept b [] e = refl
all_kept b (f ∷ fates) e = ap (λ (x : RequestBudget). after_all x fates) (kept_by f b e) ∙ all_kept b fates e

exceeded : (fates : List Fate) (a r x : ℕ) → a + x < r → is_exceeded (after_all (budget a r x) fates) ≡ true
exceeded fates a r x past =
    let now : is_exceeded (budget a r x) ≡ true = lt-ltb (a + x) r past in
    ap is_exceeded (all_kept (budget a r x) fates now) ∙ now

-- ---- one more

answered : (a r x : ℕ) → r ≤ a + x → a + 1 < 2 ^ 64 → with_answer (budget a r x) ≡ budget (a + 1) r x
answered a r x within room = rw (le-ltb (a + x) r within) (ap (λ (n : ℕ). budget n r x) (omega (arith, room)))

reset : (a r x : ℕ) → r ≤ a + x → r + 1 < 2 ^ 64 → with_reset (budget a r x) ≡ budget a (r + 1) x
reset a r x within room = rw (le-ltb (a + x) r within) (ap (λ (n : ℕ). budget a n x) (omega (arith, room)))

-- ---- some first ones of these requests

found_from : (n : ℕ) (fates : List Fate) (a r x : ℕ) → a + length fates < 2 ^ 64 → r + length fates < 2 ^ 64 → a + answers_in (take n fates) + x < r + resets_in (take n fates) → is_exceeded (after_all (budget a r x) fates) ≡ true
found_from zero fates a r x ha hr h = exceeded fates a r x (omega (arith, h))
found_from (suc n) [] a r x ha hr h = exceeded [] a r x (omega (arith, h))
found_from (suc n) (Answered ∷ fates) a r x ha hr h = elim (cases_lt (a + x) r) [
  | inl past ↦ exceeded (Answered ∷ fates) a r x past
  | inr within ↦
      ap (λ (b : RequestBudget). is_exceeded (after_all b fates)) (answered a r x within (omega (arith, ha)))
      ∙ found_from n fates (a + 1) r x (omega (arith, ha)) (omega (arith, hr)) (omega (arith, h))
]
found_from (suc n) (Reset ∷ fates) a r x ha hr h = elim (cases_lt (a + x) r) [
  | inl past ↦ exceeded (Reset ∷ fates) a r x past
  | inr within ↦
      ap (λ (b : RequestBudget). is_exceeded (after_all b fates)) (reset a r x within (omega (arith, hr)))
      ∙ found_from n fates a (r + 1) x (omega (arith, ha)) (omega (arith, hr)) (omega (arith, h))
]

pub excess_found : (excess n : ℕ) (fates : List Fate) → length fates < 2 ^ 64 → answers_in (take n fates) + excess < resets_in (take n fates) → is_exceeded (after_all (budget_of excess) fates) ≡ true
excess_found excess n fates l h = found_from n fates 0 0 excess (omega (arith, l)) (omega (arith, l)) (omega (arith, h))

-- so many first ones exceed it
abbrev Exceeds : List Fate → ℕ → ℕ → ℕ → Type 0
Exceeds fates a r x = (n : ℕ) × (a + answers_in (take n fates) + x < r + resets_in (take n fates))

first_of_all : (fates : List Fate) (a r x : ℕ) → r ≤ a + x → a + length fates < 2 ^ 64 → r + length fates < 2 ^ 64 → is_exceeded (after_all (budget a r x) fates) ≡ true → Exceeds fates a r x
first_of_all [] a r x within ha hr e = absurd (cc (sym (le-ltb (a + x) r within) ∙ e))
first_of_all (Answered ∷ fates) a r x within ha hr e =
    let next : with_answer (budget a r x) ≡ budget (a + 1) r x = answered a r x within (omega (arith, ha)) in
    let later : Exceeds fates (a + 1) r x = first_of_all fates (a + 1) r x (omega (arith, within)) (omega (arith, ha)) (omega (arith, hr)) (sym (ap (λ (b : RequestBudget). is_exceeded (after_all b fates)) next) ∙ e) in
    (suc later.0, omega (arith, later.1))
first_of_all (Reset ∷ fates) a r x within ha hr e = elim (cases_lt (a + x) (r + 1)) [
  | inl past ↦ (1, omega (arith, past))
  | inr still ↦
      let next : with_reset (budget a r x) ≡ budget a (r + 1) x = reset a r x within (omega (arith, hr)) in
      let later : Exceeds fates a (r + 1) x = first_of_all fates a (r + 1) x still (omega (arith, ha)) (omega (arith, hr)) (sym (ap (λ (b : RequestBudget). is_exceeded (after_all b fates)) next) ∙ e) in
      (suc later.0, omega (arith, later.1))
]

pub excess_alone : (excess : ℕ) (fates : List Fate) → length fates < 2 ^ 64 → is_exceeded (after_all (budget_of excess) fates) ≡ true → (n : ℕ) × (answers_in (take n fates) + excess < resets_in (take n fates))
excess_alone excess fates l e =
    let some : Exceeds fates 0 0 excess = first_of_all fates 0 0 excess (omega arith) (omega (arith, l)) (omega (arith, l)) e in
    (some.0, omega (arith, some.1))
