-- The steps of one poll for a frame, for the private functions that it consists of.
use Rattle.std.specs.Prelude.{◌≡◌, ◌≢◌, ℕ, ◌+◌, ◌-◌, ◌<◌, ◌≤◌, List, [], ◌++◌, length, drop, None, Result, Ok, Err}
use Rattle.wtp_core.specs.declared.bytes.poll.Polled.{Polled}
use Rattle.wtp_core.specs.declared.bytes.poll.Polled.TheVariants.{Ready, Pending, Again, NoMemory}
use Rattle.wtp_core.specs.Source.{Source}
use Rattle.wtp_core.specs.Polled.{stop, PollsAtMost}
use Rattle.wtp_core.specs.Fill.{Gains, FillMoves, interrupt_waits}
use Rattle.wtp_core.specs.SkipAhead.{max_skipped}
use Rattle.wtp_wire.specs.declared.frame.kind.FrameKind.{FrameKind}
use Rattle.wtp_wire.specs.declared.frame.kind.FrameKind.TheVariants.{WebTransport}
use Rattle.wtp_wire.specs.declared.frame.ParseError.TheVariants as parse
use Rattle.wtp_wire.specs.declared.frame.head.Announcement.{Announcement}
use Rattle.wtp_wire.specs.declared.frame.head.Announcement.TheVariants as announces
use Rattle.wtp_wire.specs.declared.frame.reading.IoReadError.{IoReadError}
use Rattle.wtp_wire.specs.declared.frame.reading.IoReadError.TheVariants.{Parse, IO}
use Rattle.wtp_wire.specs.declared.frame.reading.part.ReadInterrupted.{ReadInterrupted}
use Rattle.wtp_wire.specs.declared.frame.reading.part.ReadInterrupted.TheVariants as stopped
use Rattle.wtp_wire.specs.Kind.{IsKnown}
use Rattle.wtp_wire.specs.Content.{Content, WebTransportOf, content}
use Rattle.wtp_wire.specs.Front.{Framed, front}
use Rattle.wtp_wire.specs.FrameNeed.{frame_need}
use Rattle.wtp_wire.specs.FramePrefix.{announcement_at}
use Rattle.wtp_wire.specs.PartialFrame.{Part, IsReading}
use Rattle.wtp_wire.specs.Limits.{max_head, max_payload}
use Rattle.wtp_wire.specs.Held.{Held}

-- ---- a complete frame that the source has buffered

-- some bytes are exactly this frame
pub record IsFramed (f : Content) : Type 0 where
  pub bytes : List ℕ
  pub front : front bytes ≡ Framed f []

-- the source gave this frame, its first, in at most one call
pub record TakesFrame (f : Content) (a b : Source) : Type 0 where
  pub front : front a.ahead ≡ Framed f b.ahead
  pub asks : PollsAtMost 1 a b
  pub waits : b.waits ≡ a.waits

-- ---- reading further

-- old is a prefix of new
abbrev pub Grew : List ℕ → List ℕ → Type 0
Grew old new = (given : List ℕ) × (new ≡ old ++ given)

-- the effect of a step with this result on the bytes held and on the model of the source
abbrev pub StopMoves : {U : Type 0} → Result U ReadInterrupted → List ℕ → List ℕ → Source → Source → Type 0
StopMoves (Ok u) held new a b = Gains held new a b 0
StopMoves {U} (Err (stopped.Source h)) held new a b = FillMoves {U = U} (Err h) held new a b
StopMoves (Err stopped.NoMemory) held new a b = Gains held new a b 0

-- how often the source was not ready: once or never
abbrev pub stop_waits : {U : Type 0} → Result U ReadInterrupted → ℕ
stop_waits (Ok u) = 0
stop_waits {U} (Err (stopped.Source h)) = interrupt_waits {U = U} (Err h)
stop_waits (Err stopped.NoMemory) = 0

-- the count of waits rose by this number
abbrev pub StopWaits : {U : Type 0} → Result U ReadInterrupted → Source → Source → Type 0
StopWaits r a b = b.waits ≡ a.waits + stop_waits r

-- nothing is allocated for the payload, before or after: allocation of this size failed
pub record LacksPayloadRoom (size : ℕ) (old new : Part) : Type 0 where
  pub before : old.room ≡ 0
  pub after : new.room ≡ 0
  pub none : new.payload ≡ []
  pub some : 0 < size

-- the effect of reading a payload of this size: it is complete, or incomplete, or its allocation
-- failed
abbrev pub PayloadKeeps : {U : Type 0} → Result U ReadInterrupted → ℕ → Part → Part → Type 0
PayloadKeeps (Ok _) size old new = (new.room ≡ size) × (length new.payload ≡ size)
PayloadKeeps (Err (stopped.Source h)) size old new = (new.room ≡ size) × (length new.payload < size)
PayloadKeeps (Err stopped.NoMemory) size old new = LacksPayloadRoom size old new

-- the size of the payload that must be held after such a head
abbrev pub payload_size : Announcement → ℕ
payload_size announces.Unfinished = 0
payload_size (announces.Payload k size) = size
payload_size (announces.Session id) = 0
payload_size (announces.Skip size) = 0
payload_size announces.BadSession = 0
payload_size announces.TooLong = 0

-- the head is complete, this follows it, and its payload is complete
pub record IsComplete (s : Announcement) (p : Part) : Type 0 where
  pub whole : frame_need p.head ≡ length p.head
  pub says : announcement_at p.head ≡ s
  pub size : length p.payload ≡ payload_size s
  pub all : p.room ≡ length p.payload

-- the head is complete, a nonempty payload follows, and no byte of it was held
pub record WantsRoom (old new : Part) : Type 0 where
  pub none : old.payload ≡ []
  pub forward : length old.head ≤ length new.head
  pub whole : frame_need new.head ≡ length new.head
  pub kind : FrameKind
  pub size : ℕ
  pub says : announcement_at new.head ≡ announces.Payload kind size
  pub some : 0 < size
  pub empty : new.payload ≡ []

-- the effect of reading up to a complete payload: the frame is complete, or incomplete, or its
-- payload was not allocated
abbrev pub AdvanceKeeps : Result Announcement ReadInterrupted → Part → Part → Type 0
AdvanceKeeps (Ok s) old new = IsComplete s new
AdvanceKeeps (Err (stopped.Source _)) old new = IsReading new
AdvanceKeeps (Err stopped.NoMemory) old new = IsReading new × WantsRoom old new

-- the result for what follows the head, and the payload; a frame to be skipped has none
abbrev pub IsAnswer : Announcement → List ℕ → Result Content IoReadError → Type 0
IsAnswer announces.Unfinished payload r = ⊥
IsAnswer (announces.Payload k size) payload r = r ≡ Ok (content k payload None)
IsAnswer (announces.Session id) payload r = r ≡ Ok (WebTransportOf id)
IsAnswer (announces.Skip size) payload r = ⊥
IsAnswer announces.BadSession payload r = r ≡ Err (Parse parse.InvalidSessionId)
IsAnswer announces.TooLong payload r = r ≡ Err (Parse parse.PayloadTooBig)

-- there is a result: the frame is complete, and is not one to be skipped
abbrev pub CanAnswer : Announcement → ℕ → Type 0
CanAnswer announces.Unfinished size = ⊥
CanAnswer (announces.Payload k n) size = IsKnown k × (k ≢ WebTransport) × (size ≤ max_payload)
CanAnswer (announces.Session id) size = Unit {0}
CanAnswer (announces.Skip n) size = ⊥
CanAnswer announces.BadSession size = Unit {0}
CanAnswer announces.TooLong size = Unit {0}

-- ---- skipping the bytes of an unknown frame that are left to skip

-- skip_remaining - skip_remaining' bytes were skipped, at most the maximum for one poll
pub record Skipped (skip_remaining skip_remaining' : ℕ) (a b : Source) : Type 0 where
  pub fewer : skip_remaining' ≤ skip_remaining
  pub most : skip_remaining ≤ skip_remaining' + max_skipped
  pub there : skip_remaining - skip_remaining' ≤ length a.ahead
  pub rest : b.ahead ≡ drop (skip_remaining - skip_remaining') a.ahead
  pub asks : PollsAtMost max_skipped a b

-- the effect of skipping, by its result, on the number of bytes left to skip and on the model of
-- the source
abbrev pub SkipPolled : Polled (Result Content IoReadError) → ℕ → ℕ → Source → Source → Type 0
SkipPolled (Ready (Ok f)) skip_remaining skip_remaining' a b = ⊥
SkipPolled (Ready (Err (Parse parse.UnknownFrame))) skip_remaining skip_remaining' a b =
    Skipped skip_remaining skip_remaining' a b × (skip_remaining' ≡ 0)
SkipPolled (Ready (Err (Parse parse.InvalidSessionId))) skip_remaining skip_remaining' a b = ⊥
SkipPolled (Ready (Err (Parse parse.PayloadTooBig))) skip_remaining skip_remaining' a b = ⊥
SkipPolled (Ready (Err (IO e))) skip_remaining skip_remaining' a b =
    Skipped skip_remaining skip_remaining' a b
    × (0 < skip_remaining')
    × (skip_remaining < skip_remaining' + max_skipped)
    × (b.ahead ≡ [])
    × (e ≡ stop 1 a.ending)
SkipPolled Pending skip_remaining skip_remaining' a b =
    Skipped skip_remaining skip_remaining' a b
    × (0 < skip_remaining')
    × (skip_remaining < skip_remaining' + max_skipped)
    × (a.waits < b.waits)
SkipPolled Again skip_remaining skip_remaining' a b =
    Skipped skip_remaining skip_remaining' a b
    × (0 < skip_remaining')
    × (skip_remaining ≡ skip_remaining' + max_skipped)
SkipPolled NoMemory skip_remaining skip_remaining' a b = ⊥

-- the same for every source, even without a model
abbrev pub SkipGiven : Polled (Result Content IoReadError) → ℕ → ℕ → Type 0
SkipGiven (Ready (Ok f)) skip_remaining skip_remaining' = ⊥
SkipGiven (Ready (Err (Parse parse.UnknownFrame))) skip_remaining skip_remaining' = skip_remaining' ≡ 0
SkipGiven (Ready (Err (Parse parse.InvalidSessionId))) skip_remaining skip_remaining' = ⊥
SkipGiven (Ready (Err (Parse parse.PayloadTooBig))) skip_remaining skip_remaining' = ⊥
SkipGiven (Ready (Err (IO e))) skip_remaining skip_remaining' =
    (0 < skip_remaining') × (skip_remaining' ≤ skip_remaining)
SkipGiven Pending skip_remaining skip_remaining' = (0 < skip_remaining') × (skip_remaining' ≤ skip_remaining)
SkipGiven Again skip_remaining skip_remaining' = (0 < skip_remaining') × (skip_remaining' ≤ skip_remaining)
SkipGiven NoMemory skip_remaining skip_remaining' = ⊥

-- ---- a poll up to the bytes left to skip

-- the head of an unknown frame was taken, or bytes of one were left to skip before
pub record BeginsFrame (old new : Held) (a b : Source) : Type 0 where
  pub head : List ℕ
  pub parts : old.taken ++ a.ahead ≡ head ++ b.ahead
  pub begun :
      old.skip_remaining ≡ 0
      → (announcement_at head ≡ announces.Skip new.skip_remaining) × (frame_need head ≡ length head)
  pub going : 0 < old.skip_remaining → (head ≡ []) × (old.skip_remaining ≡ new.skip_remaining) × (b.ahead ≡ a.ahead)
  pub asks : PollsAtMost max_head a b

-- the same for every source, even without a model
pub record BeginsPlain (old new : Held) : Type 0 where
  pub empty : new.taken ≡ []
  pub begun :
      old.skip_remaining ≡ 0
      → (head : List ℕ)
      × Grew old.taken head
      × (announcement_at head ≡ announces.Skip new.skip_remaining)
      × (frame_need head ≡ length head)
  pub going : 0 < old.skip_remaining → new.skip_remaining ≡ old.skip_remaining
