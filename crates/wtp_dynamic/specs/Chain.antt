-- Chains of steps that may have a fault.
use Rattle.std.specs.Prelude.{Option, Some, None, Result, Ok, Err}

-- the next step, unless there was a fault
infixl 10 ◌>>=◌
abbrev pub ◌>>=◌ : {A B E : Type 0} → Result A E → (A → Result B E) → Result B E
(Ok x) >>= f = f x
(Err e) >>= f = Err e

-- what was found, or a fault
abbrev pub or_fault : {A E : Type 0} → E → Option A → Result A E
or_fault e None = Err e
or_fault e (Some x) = Ok x
