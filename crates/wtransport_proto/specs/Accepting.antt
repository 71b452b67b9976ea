-- Accepting a bidirectional stream that the peer opened: the frame that opens it.
--
-- A WebTransport frame opens a stream of a session if no frame of a known or reserved type comes
-- before it; the bytes after it are application data (draft-ietf-webtrans-http3-02, section 4.2).
-- Otherwise the first HEADERS frame opens a request (RFC 9114, section 4.1). Frames of reserved
-- types before it are skipped (section 7.2.8), and a DATA frame before it is an error. Frames of
-- unknown types are always skipped (section 9). The law `opening_by_front` states exactly this.
use Rattle.std.specs.Prelude.{◌≡◌, ◌≢◌, ◌⊎◌, ℕ, ◌+◌, ◌<◌, ◌≤◌, Bool, true, false, List, [], ◌∷◌}
use Rattle.wtp_core.specs.declared.bytes.error.IoReadError.TheVariants as io
use Rattle.wtp_core.specs.declared.error.ErrorCode.{ErrorCode}
use Rattle.wtp_core.specs.declared.error.ErrorCode.TheVariants.{Frame, FrameUnexpected}
use Rattle.wtp_core.specs.Source.{Source}
use Rattle.wtp_wire.specs.declared.frame.kind.FrameKind.TheVariants.{Data, Headers, Settings, WebTransport, Exercise}
use Rattle.wtp_wire.specs.Content.{Content, PlainOf, WebTransportOf, DataOf, HeadersOf, ExerciseOf, payload_in}
use Rattle.wtp_wire.specs.Front.{Front, Framed, Unknown, BadId, TooBig, Short, front}
use Rattle.wtp_wire.specs.Held.{Held, new_held, front_held, Leaves}
use Rattle.wtp_wire.specs.FramePolling.{KeepsHeld, Answered, HoldsHead}
use Rattle.wtransport_proto.specs.declared.stream.accepting.BiAccepted.{BiAccepted}
use Rattle.wtransport_proto.specs.declared.stream.accepting.BiAccepted.TheVariants as accepted
use Rattle.wtransport_proto.specs.declared.stream.accepting.BiAccepting.{BiAccepting}
use Rattle.wtransport_proto.specs.declared.stream.error.IoReadError.{IoReadError}
use Rattle.wtransport_proto.specs.declared.stream.error.IoReadError.TheVariants as stream
use Rattle.wtp_wire.specs.Rule.{RemoteBi}
use Rattle.wtp_wire.specs.Run.{Run, Tail, Ending, H3, skip_unknown}
use Rattle.wtransport_proto.specs.HeldRun.{tail_of, run_held, run_of, size_of}
use Rattle.wtransport_proto.specs.Reading.{FirstAfter}
use Rattle.wtransport_proto.specs.StreamPolling.{IsStreamFault, Exhausted, StreamTakesFrame, SourceIsAfter, Faults, SkipsUnknown, LacksMemory, CodeGiven, UnknownGiven}
use Rattle.wtransport_proto.specs.Streams.{first_of, session_of}

-- ---- what opens a stream

-- What opens a stream: a session, with its ID and the bytes after the WebTransport frame; a
-- request, with the payload of its HEADERS frame and the run of the bytes after the frame; or
-- nothing, with the ending of the stream before such a frame.
pub data Opening : Type 0 where
  Session : ℕ → List ℕ → Opening
  Request : List ℕ → Run → Opening
  Nothing : Ending → Opening

-- What the frames of a run open if the first frame is not a WebTransport frame. A run has no
-- SETTINGS frames and no later WebTransport frames, because the stream does not allow them.
abbrev pub request_in : List Content → Ending → Opening
request_in [] ending = Nothing ending
request_in (PlainOf Headers payload ∷ frames) ending =
    Request payload (record { frames = frames; ending = ending })
request_in (PlainOf (Exercise number) payload ∷ frames) ending = request_in frames ending
request_in (PlainOf Data payload ∷ frames) ending = Nothing (H3 FrameUnexpected)
request_in (PlainOf Settings payload ∷ frames) ending = Nothing (H3 FrameUnexpected)
request_in (PlainOf WebTransport payload ∷ frames) ending = Nothing (H3 Frame)
request_in (WebTransportOf id ∷ frames) ending = Nothing (H3 Frame)

-- what opens a stream, given the first frame that is not unknown, and the run
abbrev pub opening_by : Bool → Front → Run → Opening
opening_by true (Framed (WebTransportOf id) rest) r = Session id rest
opening_by first case r = request_in r.frames r.ending

-- the first frame that is not unknown, given the first frame
abbrev pub known_by : Front → Front
known_by (Framed f rest) = Framed f rest
known_by (Unknown rest) = front (skip_unknown rest)
known_by (BadId rest) = BadId rest
known_by (TooBig rest) = TooBig rest
known_by Short = Short

-- What opens a stream, given the bytes held and ahead and how they end. `first` is whether the next
-- frame is the first one of the stream.
unfoldable pub opening : Bool → Held → List ℕ → Tail → Opening
opening first h ahead tail =
    opening_by first (known_by (front_held h ahead)) (run_held RemoteBi first h ahead tail)

-- the same for the bytes ahead in a source
abbrev pub opening_of : Bool → Held → Source → Opening
opening_of first h s = opening first h s.ahead (tail_of s.ending)

-- ---- the effect of one poll on a source with a model

-- In these definitions, old and new are the reading states before and after one poll. `first` and
-- `next` are whether the next frame is the first one of its stream, before and after it.

-- The WebTransport frame was taken, and no byte after it: the bytes ahead are those after the
-- frame.
pub record TakesSession (first : Bool) (old : Held) (id : ℕ) (a b : Source) : Type 0 where
  pub opening : opening_of first old a ≡ Session id b.ahead
  pub none_before : first ≡ true
  pub front : front_held old a.ahead ≡ Framed (WebTransportOf id) b.ahead

-- The HEADERS frame was taken, and no byte after it: the run of the bytes held and ahead is the one
-- after the frame.
pub record TakesRequest (first next : Bool) (old new : Held) (f : Content) (a b : Source) : Type
    0 where
  pub opening : opening_of first old a ≡ Request (payload_in f) (run_of RemoteBi next new b)
  pub headers : f ≡ HeadersOf (payload_in f)
  pub takes : StreamTakesFrame RemoteBi first next old new f a b

-- what opens the stream is unchanged
abbrev pub SameOpening : Bool → Bool → Held → Held → Source → Source → Type 0
SameOpening first next old new a b = opening_of next new b ≡ opening_of first old a

-- a frame of a reserved type was taken, and no byte after it
abbrev pub SkipsReserved : Bool → Bool → Held → Held → Source → Source → Type 0
SkipsReserved first next old new a b =
    (number : ℕ)
    × (payload : List ℕ)
    × StreamTakesFrame RemoteBi first next old new (ExerciseOf number payload) a b

-- a frame of a reserved or unknown type was skipped, or 4096 payload bytes of an unknown one
pub record SkipsFrame (first next : Bool) (old new : Held) (a b : Source) : Type 0 where
  pub opening : SameOpening first next old new a b
  pub size : size_of new b < size_of old a
  pub skipped : SkipsUnknown first next old new a b ⊎ SkipsReserved first next old new a b

-- the stream ends with this error before a frame opens it
pub record IsOpeningFault (o : Opening) (x : IoReadError) : Type 0 where
  pub ending : Ending
  pub opening : o ≡ Nothing ending
  pub fault : IsStreamFault x ending

-- a DATA frame was taken, and no byte after it, and the error is FrameUnexpected
abbrev pub TakesData : Bool → Bool → Held → Held → IoReadError → Source → Source → Type 0
TakesData first next old new x a b =
    (x ≡ stream.H3 FrameUnexpected)
    × ((payload : List ℕ) × StreamTakesFrame RemoteBi first next old new (DataOf payload) a b)

-- No frame opens the stream, and this is its error. An invalid frame or head was taken completely,
-- and no byte after it; if the bytes are too few, all bytes received are held.
pub record FailsToOpen (first next : Bool) (old new : Held) (x : IoReadError) (a b : Source) : Type
    0 where
  pub fails : IsOpeningFault (opening_of first old a) x
  pub why : Faults RemoteBi first next old new x a b ⊎ TakesData first next old new x a b
  pub size : size_of new b ≤ size_of old a
  pub flag : FirstAfter RemoteBi first (front_held old a.ahead) next
  pub place : SourceIsAfter (front_held old a.ahead) old new a b
  pub dry : Exhausted x b

-- the effect of one poll, by its result, on the state and on the model of the source
abbrev pub BiAcceptPolled : BiAccepted → Bool → Held → Source → Source → Type 0
BiAcceptPolled (accepted.WebTransport s) first old a b = TakesSession first old (session_of s) a b
BiAcceptPolled (accepted.Request s reading f) first old a b =
    TakesRequest first (first_of s) old reading f a b
BiAcceptPolled (accepted.Again p) first old a b =
    SkipsFrame first (first_of p.stream) old p.reading a b
BiAcceptPolled (accepted.Pending p) first old a b =
    SameOpening first (first_of p.stream) old p.reading a b
    × Leaves old p.reading a b
    × (first_of p.stream ≡ first)
    × (a.waits < b.waits)
BiAcceptPolled (accepted.NoMemory p) first old a b =
    SameOpening first (first_of p.stream) old p.reading a b
    × LacksMemory first (first_of p.stream) old p.reading a b
BiAcceptPolled (accepted.Failed p x) first old a b =
    FailsToOpen first (first_of p.stream) old p.reading x a b

-- how often the source was not ready: once if the result is Pending, and otherwise never
abbrev pub bi_accept_waits : BiAccepted → ℕ
bi_accept_waits (accepted.Pending p) = 1
bi_accept_waits other = 0

-- the count of waits rose by one if the result is Pending, and otherwise not
abbrev pub BiAcceptWaits : BiAccepted → Source → Source → Type 0
BiAcceptWaits result a b = b.waits ≡ a.waits + bi_accept_waits result

-- ---- every source, even without a model

-- the bytes held followed by those given are a frame of a reserved type
abbrev pub ReservedGiven : Bool → Held → Held → Type 0
ReservedGiven next old new =
    (number : ℕ)
    × (payload : List ℕ)
    × Answered old new (Framed (ExerciseOf number payload))
    × (next ≡ false)

-- the bytes held followed by those given are a DATA frame, and the error is FrameUnexpected
abbrev pub DataGiven : ErrorCode → Bool → Held → Held → Type 0
DataGiven c next old new =
    (c ≡ FrameUnexpected)
    × ((payload : List ℕ) × Answered old new (Framed (DataOf payload)))
    × (next ≡ false)

-- the effect of one poll, by its result, on the state; this holds for every source, even without a
-- model
abbrev pub BiAcceptGiven : BiAccepted → Bool → Held → Type 0
BiAcceptGiven (accepted.WebTransport s) first old =
    Answered old new_held (Framed (WebTransportOf (session_of s))) × (first ≡ true)
BiAcceptGiven (accepted.Request s reading f) first old =
    Answered old reading (Framed f) × (f ≡ HeadersOf (payload_in f)) × (first_of s ≡ false)
BiAcceptGiven (accepted.Again p) first old =
    (UnknownGiven old p.reading × (first_of p.stream ≡ first))
    ⊎ ReservedGiven (first_of p.stream) old p.reading
BiAcceptGiven (accepted.Pending p) first old = KeepsHeld old p.reading × (first_of p.stream ≡ first)
BiAcceptGiven (accepted.NoMemory p) first old =
    KeepsHeld old p.reading
    × (p.reading.skip_remaining ≡ 0)
    × HoldsHead p.reading.taken
    × (first_of p.stream ≡ first)
BiAcceptGiven (accepted.Failed p (stream.H3 c)) first old =
    CodeGiven RemoteBi first (first_of p.stream) old p.reading c
    ⊎ DataGiven c (first_of p.stream) old p.reading
BiAcceptGiven (accepted.Failed p (stream.IO e)) first old =
    KeepsHeld old p.reading × (first_of p.stream ≡ first) × (e ≢ io.UnexpectedFin)

-- ---- between polls

-- the reading state after a poll; a stream of a session has none
abbrev pub held_in : BiAccepted → Held
held_in (accepted.WebTransport s) = new_held
held_in (accepted.Request s reading f) = reading
held_in (accepted.Again p) = p.reading
held_in (accepted.Pending p) = p.reading
held_in (accepted.NoMemory p) = p.reading
held_in (accepted.Failed p x) = p.reading

-- The result for a frame that the stream allows, which is not a SETTINGS frame.
abbrev pub Judges : BiAccepted → BiAccepting → Content → Type 0
Judges (accepted.WebTransport s) old f = f ≡ WebTransportOf (session_of s)
Judges (accepted.Request s reading g) old f =
    (s ≡ old.stream) × (reading ≡ old.reading) × (g ≡ f) × (f ≡ HeadersOf (payload_in f))
Judges (accepted.Again p) old f =
    (p ≡ old) × ((number : ℕ) × (payload : List ℕ) × (f ≡ ExerciseOf number payload))
Judges (accepted.Pending p) old f = ⊥
Judges (accepted.NoMemory p) old f = ⊥
Judges (accepted.Failed p x) old f =
    (p ≡ old) × (x ≡ stream.H3 FrameUnexpected) × ((payload : List ℕ) × (f ≡ DataOf payload))
