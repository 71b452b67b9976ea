-- Requests that are answered, and requests that are reset before their answer (RFC 9114, sections 4.1.1
-- and 10.5).
use Rattle.std.specs.Prelude.{ℕ, ◌+◌, ◌-◌, ◌^◌, min, nat_lt, if◌then◌else◌, Bool, List, [], ◌∷◌, Option, Some, None}
use Rattle.wtp_connection.specs.declared.budget.RequestBudget.{RequestBudget}

-- no request came
abbrev pub budget_of : ℕ → RequestBudget
budget_of excess = record { answers = 0; resets = 0; excess = excess }

-- more requests were reset before their answer than were answered and the excess together
abbrev pub is_exceeded : RequestBudget → Bool
is_exceeded b = nat_lt (b.answers + b.excess) b.resets

-- one more; a count is a number of 64 bits
abbrev pub one_more : ℕ → ℕ
one_more n = min (n + 1) (2 ^ 64 - 1)

-- one more request was answered, or was reset before its answer; once too many were reset nothing
-- changes
abbrev pub with_answer : RequestBudget → RequestBudget
with_answer b = if is_exceeded b then b else record b { answers = one_more b.answers }

abbrev pub with_reset : RequestBudget → RequestBudget
with_reset b = if is_exceeded b then b else record b { resets = one_more b.resets }

-- H3_EXCESSIVE_LOAD (RFC 9114, section 8.1), if too many were reset
abbrev pub code_after : RequestBudget → Option ℕ
code_after b = if is_exceeded b then Some 0x0107 else None

-- ---- all requests of a connection

-- what became of a request
pub data Fate : Type 0 where
  Answered : Fate
  Reset : Fate

abbrev pub with_fate : RequestBudget → Fate → RequestBudget
with_fate b Answered = with_answer b
with_fate b Reset = with_reset b

-- the budget after these requests, in this order
abbrev pub after_all : RequestBudget → List Fate → RequestBudget
after_all b [] = b
after_all b (f ∷ fates) = after_all (with_fate b f) fates

-- how many of them were answered, and how many were reset before their answer
abbrev pub answers_in : List Fate → ℕ
answers_in [] = 0
answers_in (Answered ∷ fates) = answers_in fates + 1
answers_in (Reset ∷ fates) = answers_in fates

abbrev pub resets_in : List Fate → ℕ
resets_in [] = 0
resets_in (Answered ∷ fates) = resets_in fates
resets_in (Reset ∷ fates) = resets_in fates + 1
