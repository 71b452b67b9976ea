-- What repeated polls that send a frame, or receive a header map, do together.
use Rattle.std.specs.Prelude.{◌≡◌, ◌≢◌, ℕ, ◌+◌, ◌<◌, ◌≤◌, Bool, false, List, [], ◌∷◌, ◌++◌, length, take, None, Result, Ok, Err}
use Rattle.wtp_core.specs.declared.bytes.error.IoWriteError.TheVariants as fault
use Rattle.wtp_core.specs.declared.bytes.poll.Polled.{Polled}
use Rattle.wtp_core.specs.declared.bytes.poll.Polled.TheVariants.{Ready, NoMemory}
use Rattle.wtp_core.specs.declared.error.Refused.TheVariants as refused
use Rattle.wtp_core.specs.Source.{Source}
use Rattle.wtp_core.specs.Sink.{Sink, Took}
use Rattle.wtp_wire.specs.declared.frame.kind.FrameKind.TheVariants.{Headers}
use Rattle.wtp_wire.specs.Content.{Content, HeadersOf, kind_in}
use Rattle.wtp_wire.specs.Front.{Front, Framed, Unknown, BadId, TooBig, Short, front}
use Rattle.wtp_wire.specs.FramePolling.{HoldsHead}
use Rattle.wtp_wire.specs.Held.{Held, new_held, front_held, IsUnfinished}
use Rattle.wtp_wire.specs.Wire.{wire}
use Rattle.wtp_fields.specs.Field.{Field}
use Rattle.wtp_fields.specs.Headers.{payload, headers_at, PayloadNeedsMemory}
use Rattle.wtransport_proto.specs.declared.stream.error.IoReadError.{IoReadError}
use Rattle.wtransport_proto.specs.declared.exchange.SendError.{SendError}
use Rattle.wtransport_proto.specs.declared.exchange.SendError.TheVariants as send
use Rattle.wtransport_proto.specs.declared.exchange.ReceiveError.{ReceiveError}
use Rattle.wtransport_proto.specs.declared.exchange.ReceiveError.TheVariants as receive
use Rattle.wtransport_proto.specs.declared.exchange.ExchangeError.{ExchangeError}
use Rattle.wtransport_proto.specs.declared.exchange.ExchangeError.TheVariants as exchange
use Rattle.wtp_wire.specs.Rule.{Role, RemoteUni, rule}
use Rattle.wtp_wire.specs.Run.{skip_unknown, run}
use Rattle.wtransport_proto.specs.HeldRun.{tail_of, run_of, size_of}
use Rattle.wtransport_proto.specs.Polls.{GivesNone, Series}
use Rattle.wtransport_proto.specs.StreamPolling.{EndsWithFault, Exhausted}
use Rattle.wtransport_proto.specs.Reading.{FirstAfter}

-- In all of these, a and b are the models of the sink or the source before and after the call.

-- the source was not ready at most n times
abbrev pub WaitsAtMost : ℕ → Source → Source → Type 0
WaitsAtMost n a b = b.waits ≤ a.waits + n

-- ---- sending

-- the sink took all of these bytes, within this many turns: each turn but the last waited, and
-- neither stopped nor was lost
abbrev pub SentWhole : List ℕ → ℕ → Sink → Sink → Type 0
SentWhole whole turns a b = (waits : ℕ) × (waits < turns) × Took a b whole waits 0 0

-- the sink took the first of these bytes and not all, and its counts rose by these
pub record TookPart (whole : List ℕ) (waits stops losses : ℕ) (a b : Sink) : Type 0 where
  pub sent : ℕ
  pub part : sent < length whole
  pub took : Took a b (take sent whole) waits stops losses

-- Why sending was given up, within this many turns: each turn waited; or each but the last did, and
-- the last one stopped, was lost or failed to allocate.
abbrev pub Abandoned : SendError → List ℕ → ℕ → Sink → Sink → Type 0
Abandoned send.Waiting whole turns a b = TookPart whole turns 0 0 a b
Abandoned (send.IO fault.Stopped) whole turns a b =
    (waits : ℕ) × (waits < turns) × TookPart whole waits 1 0 a b
Abandoned (send.IO fault.NotConnected) whole turns a b =
    (waits : ℕ) × (waits < turns) × TookPart whole waits 0 1 a b
Abandoned send.Memory whole turns a b = (waits : ℕ) × (waits < turns) × TookPart whole waits 0 0 a b

abbrev pub SendDid : {U : Type 0} → List ℕ → ℕ → Result U SendError → Sink → Sink → Type 0
SendDid whole turns (Ok _) a b = SentWhole whole turns a b
SendDid whole turns (Err e) a b = Abandoned e whole turns a b

-- ---- receiving

-- In these, first and next say whether the next frame would be the first of its stream.

-- the first frame after an unknown frame is that of the bytes after all of them
abbrev pub past_front : Front → Front
past_front (Framed f rest) = Framed f rest
past_front (Unknown rest) = front (skip_unknown rest)
past_front (BadId rest) = BadId rest
past_front (TooBig rest) = TooBig rest
past_front Short = Short

-- No frame was read. Only unknown frames were taken, and these bytes of the next one, which are
-- lost.
pub record KeptPlace (role : Role) (first next : Bool) (held : Held) (a b : Source) : Type 0 where
  pub run : run role first a.ahead (tail_of a.ending) ≡ run_of role next held b
  pub known : past_front (front_held held b.ahead) ≡ front (skip_unknown a.ahead)
  pub flag : next ≡ first

-- Each of this many turns waited or skipped an unknown frame or 4096 bytes of it; if the input
-- starts with a frame, it still does, and each waited.
pub record Turned (role : Role) (first next : Bool) (turns : ℕ) (held : Held) (a b : Source) : Type
    0 where
  pub kept : KeptPlace role first next held a b
  pub series : Series GivesNone role [] turns [] first next new_held held a b
  pub moved : size_of held b + a.waits + turns ≤ length a.ahead + b.waits
  pub waited :
      (f : Content) (rest : List ℕ) → front a.ahead ≡ Framed f rest
      → (front_held held b.ahead ≡ Framed f rest) × (a.waits + turns ≤ b.waits)

-- Fewer than this many turns waited or skipped some of an unknown frame, and then allocation failed
-- for the payload of a frame, of which the head alone is held.
pub record Lacked (role : Role) (first next : Bool) (turns : ℕ) (held : Held) (a b : Source) : Type
    0 where
  pub kept : KeptPlace role first next held a b
  pub before : ℕ
  pub fewer : before < turns
  pub series : Series GivesNone role [] before (NoMemory ∷ []) first next new_held held a b
  pub head : HoldsHead held.taken

-- Fewer than this many turns waited or skipped some of an unknown frame, and the next one, the last,
-- had this result.
pub record EndsWith (role : Role) (first next : Bool) (turns : ℕ)
    (last : Polled (Result Content IoReadError)) (a b : Source) : Type 0 where
  pub before : ℕ
  pub fewer : before < turns
  pub held : Held
  pub series : Series GivesNone role [] before (last ∷ []) first next new_held held a b

-- This frame follows the unknown frames at the start, the stream allows it, and it was taken, and
-- no byte after it, by at most this many turns.
pub record Takes (role : Role) (first next : Bool) (turns : ℕ) (f : Content) (a b : Source) : Type 0
  where
    pub known : front (skip_unknown a.ahead) ≡ Framed f b.ahead
    pub allowed : rule role first (kind_in f) ≡ None
    pub flag : next ≡ false
    pub turned : EndsWith role first next turns (Ready (Ok f)) a b

-- what decided is taken completely, and no byte after it; if the bytes are too few, nothing is
-- ahead
abbrev pub LeftIsAfter : Front → List ℕ → Type 0
LeftIsAfter (Framed f rest) left = left ≡ rest
LeftIsAfter (Unknown rest) left = ⊥
LeftIsAfter (BadId rest) left = left ≡ rest
LeftIsAfter (TooBig rest) left = left ≡ rest
LeftIsAfter Short left = left ≡ []

-- the stream gives no more frames, and ends with this fault, found by at most this many turns
pub record Breaks (role : Role) (first next : Bool) (turns : ℕ) (x : IoReadError) (a b : Source) :
    Type 0 where
  pub ends : EndsWithFault (run role first a.ahead (tail_of a.ending)) [] x
  pub flag : FirstAfter role first (front (skip_unknown a.ahead)) next
  pub place : LeftIsAfter (front (skip_unknown a.ahead)) b.ahead
  pub dry : Exhausted x b
  pub turned : EndsWith role first next turns (Ready (Err x)) a b

-- what reading a frame did
abbrev pub FrameDid :
    Role → Bool → Bool → ℕ → Result Content ReceiveError → Source → Source → Type 0
FrameDid role first next turns (Ok f) a b = Takes role first next turns f a b
FrameDid role first next turns (Err receive.Waiting) a b =
    (held : Held) × IsUnfinished held × Turned role first next turns held a b
FrameDid role first next turns (Err (receive.Stream x)) a b = Breaks role first next turns x a b
FrameDid role first next turns (Err (receive.OtherKind kind)) a b = ⊥
FrameDid role first next turns (Err (receive.Section e)) a b = ⊥
FrameDid role first next turns (Err receive.Memory) a b =
    (held : Held) × IsUnfinished held × Lacked role first next turns held a b

-- what reading the map of a frame did
abbrev pub MapDid :
    Role → Bool → Bool → ℕ → Result (List Field) ReceiveError → Source → Source → Type 0
MapDid role first next turns (Ok m) a b =
    (p : List ℕ) × Takes role first next turns (HeadersOf p) a b × (headers_at p ≡ Ok m)
MapDid role first next turns (Err receive.Waiting) a b =
    FrameDid role first next turns (Err receive.Waiting) a b
MapDid role first next turns (Err (receive.Stream x)) a b =
    FrameDid role first next turns (Err (receive.Stream x)) a b
MapDid role first next turns (Err (receive.OtherKind kind)) a b =
    (f : Content) × Takes role first next turns f a b × (kind_in f ≡ kind) × (kind ≢ Headers)
MapDid role first next turns (Err (receive.Section e)) a b =
    (p : List ℕ)
    × Takes role first next turns (HeadersOf p) a b
    × (e ≢ refused.Memory → headers_at p ≡ Err e)
    × (e ≡ refused.Memory → PayloadNeedsMemory p)
MapDid role first next turns (Err receive.Memory) a b =
    FrameDid role first next turns (Err receive.Memory) a b

-- m came back, and rest is ahead; or each turn waited, or allocation failed
abbrev pub CameBack :
    List Field → List ℕ → ℕ → Result (List Field) ReceiveError → Source → Source → Type 0
CameBack m rest turns (Ok n) a b = (n ≡ m) × (b.ahead ≡ rest)
CameBack m rest turns (Err receive.Waiting) a b = a.waits + turns ≤ b.waits
CameBack m rest turns (Err (receive.Stream x)) a b = ⊥
CameBack m rest turns (Err (receive.OtherKind kind)) a b = ⊥
CameBack m rest turns (Err (receive.Section (refused.Code c))) a b = ⊥
CameBack m rest turns (Err (receive.Section refused.Memory)) a b = Unit {0}
CameBack m rest turns (Err receive.Memory) a b = Unit {0}

-- If the source starts with the frame of the map m, whatever follows and however it is cut or
-- delayed, and its payload may be read, m comes back.
abbrev pub ReadsBack :
    Role → List Field → ℕ → Result (List Field) ReceiveError → Source → Source → Type 0
ReadsBack role m turns result a b =
    (rest : List ℕ) → role ≢ RemoteUni → length (payload m) ≤ 4096
    → a.ahead ≡ wire (HeadersOf (payload m)) ++ rest → CameBack m rest turns result a b

-- ---- both

-- Reading began only if all was sent.
abbrev pub Sent : List ℕ → ℕ → Result (List Field) ExchangeError → Sink → Sink → Type 0
Sent whole turns (Ok m) a b = SentWhole whole turns a b
Sent whole turns (Err (exchange.Frame e)) a b = b ≡ a
Sent whole turns (Err (exchange.Send e)) a b = Abandoned e whole turns a b
Sent whole turns (Err (exchange.Receive e)) a b = SentWhole whole turns a b

abbrev pub Received :
    Role → Bool → Bool → ℕ → Result (List Field) ExchangeError → Source → Source → Type 0
Received role first next turns (Ok m) a b = MapDid role first next turns (Ok m) a b
Received role first next turns (Err (exchange.Frame e)) a b = b ≡ a
Received role first next turns (Err (exchange.Send e)) a b = b ≡ a
Received role first next turns (Err (exchange.Receive e)) a b =
    MapDid role first next turns (Err e) a b

-- what holds if reading did not begin
abbrev pub UnlessRead : Result (List Field) ExchangeError → Type 0 → Type 0
UnlessRead (Ok m) P = Unit {0}
UnlessRead (Err (exchange.Frame e)) P = P
UnlessRead (Err (exchange.Send e)) P = P
UnlessRead (Err (exchange.Receive e)) P = Unit {0}

-- the map that was sent is the one that comes back
abbrev pub SentBack :
    Role → List Field → ℕ → Result (List Field) ExchangeError → Source → Source → Type 0
SentBack role m turns (Ok n) a b = ReadsBack role m turns (Ok n) a b
SentBack role m turns (Err (exchange.Frame e)) a b = b ≡ a
SentBack role m turns (Err (exchange.Send e)) a b = b ≡ a
SentBack role m turns (Err (exchange.Receive e)) a b = ReadsBack role m turns (Err e) a b
