-- Polled reading of a stream header.
use Rattle.std.specs.Prelude.{◌≡◌, ℕ, List, [], ◌++◌, Result, Ok, Err}
use Rattle.wtp_core.specs.declared.bytes.poll.Polled.{Polled}
use Rattle.wtp_core.specs.declared.bytes.poll.Polled.TheVariants.{Ready, Pending, Again, NoMemory}
use Rattle.wtp_core.specs.Source.{Source}
use Rattle.wtp_core.specs.Get.{Stops, Waits}
use Rattle.wtp_wire.specs.declared.stream_header.ParseError.TheVariants.{UnknownStream, InvalidSessionId}
use Rattle.wtp_wire.specs.declared.stream_header.reading.IoReadError.{IoReadError}
use Rattle.wtp_wire.specs.declared.stream_header.reading.IoReadError.TheVariants.{Parse, IO}
use Rattle.wtp_wire.specs.Header.{Header}
use Rattle.wtp_wire.specs.HeaderFront.{HeaderFront, Headed, Unknown, BadId, Short, header_front}

-- In these definitions, old and new are the bytes held before and after one poll.

-- the bytes held and ahead start with this case; all bytes up to its end are taken, and nothing is
-- held afterwards
pub record HeaderDecided (old new : List ℕ) (a b : Source) (case : List ℕ → HeaderFront) : Type
    0 where
  pub front : header_front (old ++ a.ahead) ≡ case b.ahead
  pub empty : new ≡ []

-- the effect of one poll, by its result, on the bytes held and on the model of the source
abbrev pub HeaderPolled :
    Polled (Result Header IoReadError) → List ℕ → List ℕ → Source → Source → Type 0
HeaderPolled (Ready (Ok h)) old new a b = HeaderDecided old new a b (Headed h)
HeaderPolled (Ready (Err (Parse UnknownStream))) old new a b = HeaderDecided old new a b Unknown
HeaderPolled (Ready (Err (Parse InvalidSessionId))) old new a b = HeaderDecided old new a b BadId
HeaderPolled (Ready (Err (IO e))) old new a b =
    (header_front (old ++ a.ahead) ≡ Short) × Stops old new e a b
HeaderPolled Pending old new a b = Waits old new a b
HeaderPolled Again old new a b = ⊥
HeaderPolled NoMemory old new a b = ⊥

-- the bytes held followed by those given are this case exactly, and nothing is held afterwards
pub record HeaderAnswered (old new : List ℕ) (case : List ℕ → HeaderFront) : Type 0 where
  pub given : List ℕ
  pub front : header_front (old ++ given) ≡ case []
  pub empty : new ≡ []

-- No byte was lost: the bytes given were appended to those held, or all of them are the header or
-- the error returned. This holds for every source, even without a model.
abbrev pub HeaderGiven : Polled (Result Header IoReadError) → List ℕ → List ℕ → Type 0
HeaderGiven (Ready (Ok h)) old new = HeaderAnswered old new (Headed h)
HeaderGiven (Ready (Err (Parse UnknownStream))) old new = HeaderAnswered old new Unknown
HeaderGiven (Ready (Err (Parse InvalidSessionId))) old new = HeaderAnswered old new BadId
HeaderGiven (Ready (Err (IO e))) old new = (given : List ℕ) × (new ≡ old ++ given)
HeaderGiven Pending old new = (given : List ℕ) × (new ≡ old ++ given)
HeaderGiven Again old new = ⊥
HeaderGiven NoMemory old new = ⊥

-- ---- the steps of one poll

-- the result for the bytes of a complete header
abbrev pub IsWhole : Result Header IoReadError → List ℕ → Type 0
IsWhole (Ok h) bytes = header_front bytes ≡ Headed h []
IsWhole (Err (Parse UnknownStream)) bytes = header_front bytes ≡ Unknown []
IsWhole (Err (Parse InvalidSessionId)) bytes = header_front bytes ≡ BadId []
IsWhole (Err (IO e)) bytes = ⊥
