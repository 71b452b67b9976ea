-- Reading a frame of a stream, poll by poll.
use Rattle.std.specs.Prelude.{◌≡◌, ◌≢◌, ◌⊎◌, ◌<◌, ◌≤◌, Bool, false, List, [], ◌++◌, length, Option, Some, None, Result, Ok, Err}
use Rattle.wtp_core.specs.declared.error.ErrorCode.{ErrorCode}
use Rattle.wtp_core.specs.declared.error.ErrorCode.TheVariants.{Id, ExcessiveLoad, Frame}
use Rattle.wtp_core.specs.declared.bytes.poll.Polled.{Polled}
use Rattle.wtp_core.specs.declared.bytes.poll.Polled.TheVariants.{Ready, Pending, Again, NoMemory}
use Rattle.wtp_core.specs.declared.bytes.error.IoReadError as bytes
use Rattle.wtp_core.specs.declared.bytes.error.IoReadError.TheVariants as io
use Rattle.wtp_core.specs.Source.{Source, HasModel}
use Rattle.wtp_wire.specs.declared.frame.reading.IoReadError as wire
use Rattle.wtp_wire.specs.Content.{Content, kind_in}
use Rattle.wtp_wire.specs.Front.{Front, Framed, Unknown, BadId, TooBig, Short}
use Rattle.wtp_wire.specs.Held.{Held, new_held, front_held, Skips, Leaves}
use Rattle.wtp_wire.specs.FramePolling.{Decided, WantsPayload, KeepsHeld, Answered, HoldsHead, FramePolled, FrameGiven}
use Rattle.wtransport_proto.specs.declared.stream.error.IoReadError.{IoReadError}
use Rattle.wtransport_proto.specs.declared.stream.error.IoReadError.TheVariants as stream
use Rattle.wtp_wire.specs.Rule.{Role, rule}
use Rattle.wtransport_proto.specs.Reading.{FirstAfter}
use Rattle.wtp_wire.specs.Run.{Run, Ending, H3, ImmediateFin, Reset, NotConnected}
use Rattle.wtransport_proto.specs.HeldRun.{run_of, size_of}

-- In all of these, old and new are what the reading holds before and after one poll; first and next
-- say whether the next frame would be the first of its stream.

-- a stream's fault at this ending of a run
abbrev pub IsStreamFault : IoReadError → Ending → Type 0
IsStreamFault (stream.H3 c) e = e ≡ H3 c
IsStreamFault (stream.IO io.ImmediateFin) e = e ≡ ImmediateFin
IsStreamFault (stream.IO io.UnexpectedFin) e = ⊥
IsStreamFault (stream.IO io.Reset) e = e ≡ Reset
IsStreamFault (stream.IO io.NotConnected) e = e ≡ NotConnected

-- a stream's fault for one of a source: an end inside a frame is a fault of the frame
abbrev pub stream_fault : bytes.IoReadError → IoReadError
stream_fault io.ImmediateFin = stream.IO io.ImmediateFin
stream_fault io.UnexpectedFin = stream.H3 Frame
stream_fault io.Reset = stream.IO io.Reset
stream_fault io.NotConnected = stream.IO io.NotConnected

-- the run is these frames and this fault
pub record EndsWithFault (r : Run) (fs : List Content) (x : IoReadError) : Type 0 where
  pub frames : r.frames ≡ fs
  pub fault : IsStreamFault x r.ending

-- a fault of the source follows all bytes ahead
abbrev pub Exhausted : IoReadError → Source → Type 0
Exhausted (stream.H3 c) b = Unit {0}
Exhausted (stream.IO e) b = b.ahead ≡ []

-- ---- what one poll did to a source with a model

-- this frame was taken, and no byte after it
pub record StreamTakesFrame (role : Role) (first next : Bool) (old new : Held) (f : Content)
    (a b : Source) : Type 0 where
  pub decided : Decided old new a b (Framed f)
  pub allowed : rule role first (kind_in f) ≡ None
  pub flag : next ≡ false

-- What a fault leaves. What decided is taken completely, and no byte after it; if the bytes are too
-- few, nothing is ahead, and nothing was lost.
abbrev pub SourceIsAfter : Front → Held → Held → Source → Source → Type 0
SourceIsAfter (Framed f rest) old new a b = (new ≡ new_held) × (rest ≡ b.ahead)
SourceIsAfter (Unknown rest) old new a b = ⊥
SourceIsAfter (BadId rest) old new a b = (new ≡ new_held) × (rest ≡ b.ahead)
SourceIsAfter (TooBig rest) old new a b = (new ≡ new_held) × (rest ≡ b.ahead)
SourceIsAfter Short old new a b = Leaves old new a b × (b.ahead ≡ [])

-- the run has no more frames, and ends with this fault
pub record Faults (role : Role) (first next : Bool) (old new : Held) (x : IoReadError)
    (a b : Source) : Type 0 where
  pub ends : EndsWithFault (run_of role first old a) [] x
  pub size : size_of new b ≤ size_of old a
  pub flag : FirstAfter role first (front_held old a.ahead) next
  pub place : SourceIsAfter (front_held old a.ahead) old new a b
  pub dry : Exhausted x b

-- an unknown frame was skipped; or 4096 bytes of its payload, and some are still to be skipped
pub record SkipsUnknown (first next : Bool) (old new : Held) (a b : Source) : Type 0 where
  pub skips : Skips old new a b
  pub whole : new.skip_remaining ≡ 0 → Decided old new a b Unknown
  pub part :
      0 < new.skip_remaining
      → (front_held new b.ahead ≡ front_held old a.ahead) × (length skips.payload ≡ 4096)
  pub flag : next ≡ first

-- allocation failed for the payload of a frame, none of whose bytes was held
pub record LacksMemory (first next : Bool) (old new : Held) (a b : Source) : Type 0 where
  pub leaves : Leaves old new a b
  pub none_due : old.skip_remaining ≡ 0
  pub none_due_now : new.skip_remaining ≡ 0
  pub wants : WantsPayload (old.taken ++ a.ahead) (length old.taken)
  pub flag : next ≡ first

abbrev pub StreamPolled :
    Role → Polled (Result Content IoReadError) → Bool → Bool → Held → Held → Source → Source
    → Type 0
StreamPolled role (Ready (Ok f)) first next old new a b =
    StreamTakesFrame role first next old new f a b
StreamPolled role (Ready (Err x)) first next old new a b = Faults role first next old new x a b
StreamPolled role Pending first next old new a b =
    Leaves old new a b × (next ≡ first) × (a.waits < b.waits)
StreamPolled role Again first next old new a b = SkipsUnknown first next old new a b
StreamPolled role NoMemory first next old new a b = LacksMemory first next old new a b

-- ---- of every source, also of one without a model

-- The frame that the rule refuses was given completely; or an invalid session ID; or a length that
-- is too big. Or the source ended inside a frame.
abbrev pub CodeGiven : Role → Bool → Bool → Held → Held → ErrorCode → Type 0
CodeGiven role first next old new c =
    ((f : Content) × Answered old new (Framed f) × (rule role first (kind_in f) ≡ Some c)
    × (next ≡ false))
    ⊎ ((c ≡ Id) × Answered old new BadId × (next ≡ first))
    ⊎ ((c ≡ ExcessiveLoad) × Answered old new TooBig × (next ≡ first))
    ⊎ ((c ≡ Frame) × KeepsHeld old new × (next ≡ first))

-- an unknown frame was given completely, or a part of its payload
abbrev pub UnknownGiven : Held → Held → Type 0
UnknownGiven old new = Answered old new Unknown ⊎ (KeepsHeld old new × (0 < new.skip_remaining))

abbrev pub StreamGiven :
    Role → Polled (Result Content IoReadError) → Bool → Bool → Held → Held → Type 0
StreamGiven role (Ready (Ok f)) first next old new =
    Answered old new (Framed f) × (rule role first (kind_in f) ≡ None) × (next ≡ false)
StreamGiven role (Ready (Err (stream.H3 c))) first next old new =
    CodeGiven role first next old new c
StreamGiven role (Ready (Err (stream.IO e))) first next old new =
    KeepsHeld old new × (next ≡ first) × (e ≢ io.UnexpectedFin)
StreamGiven role Pending first next old new = KeepsHeld old new × (next ≡ first)
StreamGiven role Again first next old new = UnknownGiven old new × (next ≡ first)
StreamGiven role NoMemory first next old new =
    KeepsHeld old new × (new.skip_remaining ≡ 0) × HoldsHead new.taken × (next ≡ first)

-- ---- the result of a stream for the result of its reading

-- for bytes that are no frame, by their code; those without one are an unknown frame
abbrev pub without_frame : Option ErrorCode → Polled (Result Content IoReadError)
without_frame None = Again
without_frame (Some code) = Ready (Err (stream.H3 code))

-- whether a next frame would be the first, after this result of a poll: a complete frame was
-- returned, which the rule may refuse
abbrev pub first_after : Bool → Polled (Result Content wire.IoReadError) → Bool
first_after first (Ready (Ok f)) = false
first_after first (Ready (Err e)) = first
first_after first Pending = first
first_after first Again = first
first_after first NoMemory = first

-- Whatever was held, and whatever the source: what the reading's result says of them, the stream's
-- result says by its rule.
abbrev pub JudgesPolled :
    Role → Polled (Result Content wire.IoReadError) → Polled (Result Content IoReadError) → Bool
    → Bool → Type 0
JudgesPolled role answer result first next =
    (s t : Option Source) (old new : Held) → HasModel s t (FramePolled answer old new)
    → HasModel s t (StreamPolled role result first next old new)

-- the same of every source, also of one without a model
abbrev pub JudgesGiven :
    Role → Polled (Result Content wire.IoReadError) → Polled (Result Content IoReadError) → Bool
    → Bool → Type 0
JudgesGiven role answer result first next =
    (old new : Held) → FrameGiven answer old new → StreamGiven role result first next old new
