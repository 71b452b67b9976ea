-- Polled reading of a frame.
use Rattle.std.specs.Prelude.{◌≡◌, ℕ, ◌+◌, ◌<◌, ◌≤◌, List, [], ◌++◌, length, Result, Ok, Err}
use Rattle.wtp_core.specs.declared.bytes.poll.Polled.{Polled}
use Rattle.wtp_core.specs.declared.bytes.poll.Polled.TheVariants.{Ready, Pending, Again, NoMemory}
use Rattle.wtp_core.specs.Source.{Source}
use Rattle.wtp_core.specs.Polled.{stop}
use Rattle.wtp_core.specs.SkipAhead.{max_skipped}
use Rattle.wtp_wire.specs.declared.frame.kind.FrameKind.{FrameKind}
use Rattle.wtp_wire.specs.declared.frame.ParseError.TheVariants.{UnknownFrame, InvalidSessionId, PayloadTooBig}
use Rattle.wtp_wire.specs.declared.frame.reading.IoReadError.{IoReadError}
use Rattle.wtp_wire.specs.declared.frame.reading.IoReadError.TheVariants.{Parse, IO}
use Rattle.wtp_wire.specs.Content.{Content}
use Rattle.wtp_wire.specs.Front.{Front, Framed, Unknown, BadId, TooBig, Short}
use Rattle.wtp_wire.specs.Held.{Held, new_held, front_held, IsUnknownHead, IsPayloadHead, Skips, Leaves}

-- In these definitions, old and new are the state before and after one poll.

-- the bytes held and ahead start with this case; all bytes up to its end are taken, and nothing is
-- held afterwards
pub record Decided (old new : Held) (a b : Source) (case : List ℕ → Front) : Type 0 where
  pub front : front_held old a.ahead ≡ case b.ahead
  pub empty : new ≡ new_held

-- the source gives no more bytes, and those held and ahead are too few
pub record Stopped (old new : Held) (a b : Source) (fault : IoReadError) : Type 0 where
  pub leaves : Leaves old new a b
  pub short : front_held old a.ahead ≡ Short
  pub none_ahead : b.ahead ≡ []
  pub why : fault ≡ IO (stop (old.skip_remaining + length (old.taken ++ a.ahead)) a.ending)

-- the maximum number of bytes of an unknown frame was skipped, and more are left to skip
pub record SkipsMost (old new : Held) (a b : Source) : Type 0 where
  pub same : front_held new b.ahead ≡ front_held old a.ahead
  pub skip_remaining : 0 < new.skip_remaining
  pub skips : Skips old new a b
  pub most : length skips.payload ≡ max_skipped

-- the bytes start with the head of a nonempty payload that may be read; no byte of the payload was
-- held
pub record WantsPayload (whole : List ℕ) (held : ℕ) : Type 0 where
  pub kind : FrameKind
  pub size : ℕ
  pub head : List ℕ
  pub rest : List ℕ
  pub is : IsPayloadHead kind size head
  pub some : 0 < size
  pub parts : whole ≡ head ++ rest
  pub none_held : held ≤ length head

-- the effect of one poll, by its result, on the state and on the model of the source
abbrev pub FramePolled :
    Polled (Result Content IoReadError) → Held → Held → Source → Source → Type 0
FramePolled (Ready (Ok f)) old new a b = Decided old new a b (Framed f)
FramePolled (Ready (Err (Parse UnknownFrame))) old new a b =
    Decided old new a b Unknown × Skips old new a b
FramePolled (Ready (Err (Parse InvalidSessionId))) old new a b = Decided old new a b BadId
FramePolled (Ready (Err (Parse PayloadTooBig))) old new a b = Decided old new a b TooBig
FramePolled (Ready (Err (IO e))) old new a b = Stopped old new a b (IO e)
FramePolled Pending old new a b = Leaves old new a b × (a.waits < b.waits)
FramePolled Again old new a b = SkipsMost old new a b
FramePolled NoMemory old new a b =
    Leaves old new a b
    × (old.skip_remaining ≡ 0)
    × (new.skip_remaining ≡ 0)
    × WantsPayload (old.taken ++ a.ahead) (length old.taken)

-- ---- every source, even without a model

-- No byte was lost: the bytes given were appended to those held, or they are the head and skipped
-- bytes of an unknown frame, or the number of bytes left to skip did not grow.
pub record KeepsHeld (old new : Held) : Type 0 where
  pub kept : new.skip_remaining ≡ 0 → (old.skip_remaining ≡ 0) × ((given : List ℕ) × (new.taken ≡ old.taken ++ given))
  pub begun :
      old.skip_remaining ≡ 0 → 0 < new.skip_remaining
      → (given : List ℕ) × (skipped : ℕ) × IsUnknownHead (skipped + new.skip_remaining) (old.taken ++ given)
  pub going : 0 < old.skip_remaining → (0 < new.skip_remaining) × (new.skip_remaining ≤ old.skip_remaining)

-- the bytes held followed by those given are this case exactly, and nothing is held afterwards
pub record Answered (old new : Held) (case : List ℕ → Front) : Type 0 where
  pub given : List ℕ
  pub front : front_held old given ≡ case []
  pub empty : new ≡ new_held

-- the bytes held are the head of a nonempty payload that may be read
pub record HoldsHead (held : List ℕ) : Type 0 where
  pub kind : FrameKind
  pub size : ℕ
  pub is : IsPayloadHead kind size held
  pub some : 0 < size

-- the effect of one poll, by its result, on the state; this holds for every source, even without a
-- model
abbrev pub FrameGiven : Polled (Result Content IoReadError) → Held → Held → Type 0
FrameGiven (Ready (Ok f)) old new = Answered old new (Framed f)
FrameGiven (Ready (Err (Parse UnknownFrame))) old new = Answered old new Unknown
FrameGiven (Ready (Err (Parse InvalidSessionId))) old new = Answered old new BadId
FrameGiven (Ready (Err (Parse PayloadTooBig))) old new = Answered old new TooBig
FrameGiven (Ready (Err (IO e))) old new = KeepsHeld old new
FrameGiven Pending old new = KeepsHeld old new
FrameGiven Again old new = KeepsHeld old new × (0 < new.skip_remaining)
FrameGiven NoMemory old new = KeepsHeld old new × (new.skip_remaining ≡ 0) × HoldsHead new.taken
