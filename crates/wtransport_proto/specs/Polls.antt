-- Consecutive polls of a stream, each of which continues where the previous one stopped.
use Rattle.std.specs.Prelude.{◌≡◌, ℕ, Bool, List, [], ◌∷◌, ◌++◌, length, Result, Ok, Err}
use Rattle.std.specs.List.{All}
use Rattle.wtp_core.specs.declared.bytes.poll.Polled.{Polled}
use Rattle.wtp_core.specs.declared.bytes.poll.Polled.TheVariants.{Ready, Pending, Again, NoMemory}
use Rattle.wtp_core.specs.Source.{Source}
use Rattle.wtp_core.specs.Polled.{PollsAtMost, WaitsAs}
use Rattle.wtp_wire.specs.Content.{Content}
use Rattle.wtp_wire.specs.Held.{Held}
use Rattle.wtp_wire.specs.Rule.{Role}
use Rattle.wtransport_proto.specs.declared.stream.error.IoReadError.{IoReadError}
use Rattle.wtransport_proto.specs.StreamPolling.{StreamPolled}

-- In these definitions, first, old and a are the state before the polls, and next, new and b the
-- state after them: whether the next frame is the first one of its stream, the reading state, and
-- the source.

-- one poll had this result, counted a wait exactly if it waited, and made at most 4112 calls
abbrev pub PollDid :
    Role → Polled (Result Content IoReadError) → Bool → Bool → Held → Held → Source → Source
    → Type 0
PollDid role x first next old new a b =
    StreamPolled role x first next old new a b × WaitsAs x a b × PollsAtMost 4112 a b

-- consecutive polls had these results, in order; without polls, nothing changes
abbrev pub Polls :
    Role → List (Polled (Result Content IoReadError)) → Bool → Bool → Held → Held → Source → Source
    → Type 0
Polls role [] first next old new a b = (next ≡ first) × (new ≡ old) × (b ≡ a)
Polls role (x ∷ xs) first next old new a b =
    (flag : Bool)
    × (held : Held)
    × (source : Source)
    × PollDid role x first flag old held a source
    × Polls role xs flag next held new source b

-- the frames that the polls returned
abbrev pub frames_in : List (Polled (Result Content IoReadError)) → List Content
frames_in [] = []
frames_in (Ready (Ok f) ∷ xs) = f ∷ frames_in xs
frames_in (Ready (Err x) ∷ xs) = frames_in xs
frames_in (Pending ∷ xs) = frames_in xs
frames_in (Again ∷ xs) = frames_in xs
frames_in (NoMemory ∷ xs) = frames_in xs

-- the poll took a frame, or skipped an unknown frame or 4096 bytes of it
abbrev pub TakesSome : Polled (Result Content IoReadError) → Type 0
TakesSome (Ready (Ok f)) = Unit {0}
TakesSome (Ready (Err x)) = ⊥
TakesSome Pending = ⊥
TakesSome Again = Unit {0}
TakesSome NoMemory = ⊥

-- the poll waited, or skipped an unknown frame or 4096 bytes of it
abbrev pub GivesNone : Polled (Result Content IoReadError) → Type 0
GivesNone (Ready (Ok f)) = ⊥
GivesNone (Ready (Err x)) = ⊥
GivesNone Pending = Unit {0}
GivesNone Again = Unit {0}
GivesNone NoMemory = ⊥

-- count polls, each with the property Each, returned the frames fs; polls with the results `last`
-- followed
pub record Series (Each : Polled (Result Content IoReadError) → Type 0) (role : Role)
    (fs : List Content) (count : ℕ) (last : List (Polled (Result Content IoReadError)))
    (first next : Bool) (old new : Held) (a b : Source) : Type 0 where
  pub results : List (Polled (Result Content IoReadError))
  pub each : All Each results
  pub many : length results ≡ count
  pub frames : frames_in results ≡ fs
  pub polls : Polls role (results ++ last) first next old new a b
