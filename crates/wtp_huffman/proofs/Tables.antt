-- Deciding a statement for all numbers below a bound.
use Rattle.std.proofs.Common.{Bool, arith, inl, inr, suc, true, zero, ℕ, ◌&&◌, ◌<◌, ◌≡◌}
use Rattle.std.proofs.lemmas.Bool.{and_parts, cases_lt}

abbrev pub all_below : (ℕ → Bool) → ℕ → Bool
all_below p zero = true
all_below p (suc n) = p n && all_below p n

pub all_below_at : (p : ℕ → Bool) (n k : ℕ) → all_below p n ≡ true → k < n → p k ≡ true
all_below_at p zero k h lt = absurd (omega arith)
all_below_at p (suc n) k h lt =
    let parts = and_parts (p n) (all_below p n) h in
    elim (cases_lt k n) [
      | inl below ↦ all_below_at p n k parts.1 below
      | inr top ↦
          let e : k ≡ n = omega arith in
          rw e parts.0
    ]
