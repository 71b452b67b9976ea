-- The result of a reading function: a value, or its first fault.
use Rattle.std.specs.Prelude.{◌≡◌, ◌≢◌, MatchResult, Result, Ok, Err}
use Rattle.wtp_qpack.specs.declared.qpack.DecodingError.{DecodingError}
use Rattle.wtp_qpack.specs.declared.qpack.DecodingError.TheVariants.{Memory}

-- what a call returned, viewed by view, is what is read
abbrev pub Gives : {X Y : Type 0} → (X → Y) → Result X DecodingError → Result Y DecodingError
    → Type 0
Gives view result read = MatchResult result (λ x. read ≡ Ok (view x)) (λ e. read ≡ Err e)

-- the same, unless allocation failed
abbrev pub GivesUnlessMemory : {X Y : Type 0} → (X → Y) → Result X DecodingError
    → Result Y DecodingError → Type 0
GivesUnlessMemory view result read =
    MatchResult result (λ x. read ≡ Ok (view x)) (λ e. e ≢ Memory → read ≡ Err e)

-- the next step, unless there was a fault
infixl 10 ◌>>=◌
abbrev pub ◌>>=◌ : {A B : Type 0} → Result A DecodingError → (A → Result B DecodingError)
    → Result B DecodingError
(Ok x) >>= f = f x
(Err e) >>= f = Err e
