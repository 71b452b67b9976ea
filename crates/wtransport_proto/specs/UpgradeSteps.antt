-- Polled upgrades of streams.
use Rattle.std.specs.Prelude.{◌≡◌, ◌≢◌, ◌⊎◌, ℕ, ◌+◌, ◌<◌, List, [], ◌++◌, length, drop}
use Rattle.wtp_core.specs.declared.bytes.poll.Stepped.{Stepped}
use Rattle.wtp_core.specs.declared.bytes.poll.Stepped.TheVariants.{Done, Pending, NoMemory, Failed}
use Rattle.wtp_core.specs.declared.bytes.error.IoReadError.TheVariants as read
use Rattle.wtp_core.specs.declared.bytes.error.IoWriteError.{IoWriteError}
use Rattle.wtp_core.specs.declared.bytes.error.IoWriteError.TheVariants as write
use Rattle.wtp_core.specs.declared.error.ErrorCode.{ErrorCode}
use Rattle.wtp_core.specs.declared.error.ErrorCode.TheVariants.{StreamCreation, Id, Frame}
use Rattle.wtp_core.specs.Source.{Source}
use Rattle.wtp_core.specs.Sink.{Sink, Took}
use Rattle.wtp_core.specs.Get.{Stops, Waits}
use Rattle.wtp_core.specs.Put.{Writing, GoesOn, between}
use Rattle.wtp_wire.specs.FrameSteps.{Grew}
use Rattle.wtp_wire.specs.HeaderFront.{Headed, Unknown, BadId, Short, header_front}
use Rattle.wtp_wire.specs.HeaderPolling.{HeaderDecided, HeaderAnswered}
use Rattle.wtransport_proto.specs.declared.stream.Stream.{Stream}
use Rattle.wtransport_proto.specs.declared.stream.types.BiLocal.{BiLocal}
use Rattle.wtransport_proto.specs.declared.stream.types.UniLocal.{UniLocal}
use Rattle.wtransport_proto.specs.declared.stream.types.UniRemote.{UniRemote}
use Rattle.wtransport_proto.specs.declared.stream.types.H3.{H3}
use Rattle.wtransport_proto.specs.declared.stream.types.WT.{WT}
use Rattle.wtransport_proto.specs.declared.stream.error.IoReadError.{IoReadError}
use Rattle.wtransport_proto.specs.declared.stream.error.IoReadError.TheVariants as stream
use Rattle.wtransport_proto.specs.declared.stream.upgrading.BiUpgrading.{BiUpgrading}
use Rattle.wtransport_proto.specs.declared.stream.upgrading.UniUpgrading.{UniUpgrading}
use Rattle.wtransport_proto.specs.declared.stream.accepting.UniAccepting.{UniAccepting}
use Rattle.wtp_wire.specs.Header.{Header}
use Rattle.wtransport_proto.specs.Streams.{header_of, session_of}

-- ---- upgrades that write

-- The effect of one poll on the model of a sink: it took the bytes sent between the old state and
-- the returned one, or all remaining bytes if the upgrade is done. Pending, Stopped and
-- NotConnected raise their own count by exactly one, and no other count changed. `writing` returns
-- the write state of a returned state.
abbrev pub StepSends :
    {P T : Type 0} → (P → Writing) → Stepped P T IoWriteError → Writing → Sink → Sink → Type 0
StepSends writing (Done t) old a b = Took a b (drop old.sent old.bytes) 0 0 0
StepSends writing (Pending p) old a b = Took a b (between old (writing p)) 1 0 0
StepSends writing (NoMemory p) old a b = Took a b (between old (writing p)) 0 0 0
StepSends writing (Failed p write.Stopped) old a b = Took a b (between old (writing p)) 0 1 0
StepSends writing (Failed p write.NotConnected) old a b = Took a b (between old (writing p)) 0 0 1

-- new has sent at least as many bytes as old, but not all
pub record SentPart (old new : Writing) : Type 0 where
  pub on : GoesOn old new
  pub part : new.sent < length new.bytes

-- the write state of an upgrade to a stream of a session
abbrev pub bi_writing : BiUpgrading → Writing
bi_writing u = u.writing

-- the state of an upgrade after a poll that did not complete it: only the number of bytes sent
-- changed
abbrev pub BiGoesOn : BiUpgrading → BiUpgrading → Type 0
BiGoesOn old new =
    (new.stream ≡ old.stream) × (new.session_id ≡ old.session_id) × SentPart old.writing new.writing

-- The returned state or stream, by the result of one poll. This holds for every sink, even without
-- a model.
abbrev pub BiStepped : Stepped BiUpgrading (Stream BiLocal WT) IoWriteError → BiUpgrading → Type 0
BiStepped (Done s) old = session_of s ≡ old.session_id
BiStepped (Pending p) old = BiGoesOn old p
BiStepped (NoMemory p) old = BiGoesOn old p
BiStepped (Failed p e) old = BiGoesOn old p

-- the write state of an upgrade with a header
abbrev pub uni_writing : UniUpgrading → Writing
uni_writing u = u.writing

-- the state of an upgrade after a poll that did not complete it: only the number of bytes sent
-- changed
abbrev pub UniGoesOn : UniUpgrading → UniUpgrading → Type 0
UniGoesOn old new =
    (new.stream ≡ old.stream) × (new.header ≡ old.header) × SentPart old.writing new.writing

-- The returned state or stream, by the result of one poll. This holds for every sink, even without
-- a model.
abbrev pub UniStepped :
    Stepped UniUpgrading (Stream UniLocal (H3 Header)) IoWriteError → UniUpgrading → Type 0
UniStepped (Done s) old = header_of s ≡ old.header
UniStepped (Pending p) old = UniGoesOn old p
UniStepped (NoMemory p) old = UniGoesOn old p
UniStepped (Failed p e) old = UniGoesOn old p

-- ---- the upgrade that reads a header

-- In these definitions, old and new are the bytes held before and after one poll.

-- the error code is that of an unknown type, of an invalid session ID, or of a source that ended
-- inside the header
abbrev pub HeaderFault : ErrorCode → List ℕ → List ℕ → Source → Source → Type 0
HeaderFault c old new a b =
    ((c ≡ StreamCreation) × HeaderDecided old new a b Unknown)
    ⊎ ((c ≡ Id) × HeaderDecided old new a b BadId)
    ⊎ ((c ≡ Frame) × (header_front (old ++ a.ahead) ≡ Short) × Stops old new read.UnexpectedFin a b)

-- the effect of one poll, by its result, on the bytes held and on the model of the source
abbrev pub AcceptPolled :
    Stepped UniAccepting (Stream UniRemote (H3 Header)) IoReadError → List ℕ → Source → Source
    → Type 0
AcceptPolled (Done s) old a b = header_front (old ++ a.ahead) ≡ Headed (header_of s) b.ahead
AcceptPolled (Pending p) old a b = Waits old p.reading a b
AcceptPolled (NoMemory p) old a b = ⊥
AcceptPolled (Failed p (stream.H3 c)) old a b = HeaderFault c old p.reading a b
AcceptPolled (Failed p (stream.IO e)) old a b =
    (e ≢ read.UnexpectedFin) × (header_front (old ++ a.ahead) ≡ Short) × Stops old p.reading e a b

-- how often the source was not ready: once if the result is Pending, and otherwise never
abbrev pub accept_waits : Stepped UniAccepting (Stream UniRemote (H3 Header)) IoReadError → ℕ
accept_waits (Pending p) = 1
accept_waits other = 0

-- the count of waits rose by one if the result is Pending, and otherwise not
abbrev pub AcceptWaits :
    Stepped UniAccepting (Stream UniRemote (H3 Header)) IoReadError → Source → Source → Type 0
AcceptWaits result a b = b.waits ≡ a.waits + accept_waits result

-- the same for every source, even without a model
abbrev pub HeaderFaultGiven : ErrorCode → List ℕ → List ℕ → Type 0
HeaderFaultGiven c old new =
    ((c ≡ StreamCreation) × HeaderAnswered old new Unknown)
    ⊎ ((c ≡ Id) × HeaderAnswered old new BadId)
    ⊎ ((c ≡ Frame) × Grew old new)

-- The effect of one poll, by its result, on the state. This holds for every source, even without a
-- model.
abbrev pub AcceptGiven :
    Stepped UniAccepting (Stream UniRemote (H3 Header)) IoReadError → UniAccepting → Type 0
AcceptGiven (Done s) old =
    (given : List ℕ) × (header_front (old.reading ++ given) ≡ Headed (header_of s) [])
AcceptGiven (Pending p) old = (p.stream ≡ old.stream) × Grew old.reading p.reading
AcceptGiven (NoMemory p) old = ⊥
AcceptGiven (Failed p (stream.H3 c)) old =
    (p.stream ≡ old.stream) × HeaderFaultGiven c old.reading p.reading
AcceptGiven (Failed p (stream.IO e)) old =
    (e ≢ read.UnexpectedFin) × (p.stream ≡ old.stream) × Grew old.reading p.reading
