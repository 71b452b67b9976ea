-- A connection as its contracts speak of it.
use Rattle.std.specs.Prelude.{if◌then◌else◌, ◌%◌, ◌==◌, ◌&&◌, ◌++◌, nat_lt, ◌≡◌, ◌⊎◌, ◌||◌, ℕ, Bool, true, false, not, is_some, IfOk, IfSome, List, [], ◌∷◌, length, Option, None, Some, Result, Ok, Err}
use Rattle.std.specs.List.{filter, list_any}
use Rattle.std.specs.declared.vec.Vec.{Vec}
use Rattle.std.specs.declared.alloc.Global.{Global}
use Rattle.std.specs.Ordering.{nat_cmp}
use Rattle.std.specs.Map.{lookup, set_value}
use Rattle.std.specs.BTreeMap.{is_at}
use Rattle.vesgrauf_stream.specs.declared.writing.Writing.{Writing}
use Rattle.vesgrauf.specs.declared.connection.Connection.{Connection}
use Rattle.vesgrauf.specs.declared.connection.Ended.{Ended}
use Rattle.vesgrauf.specs.declared.connection.Step.{Step}
use Rattle.vesgrauf.specs.declared.connection.Step.TheVariants as step
use Rattle.vesgrauf.specs.declared.connection.ids.Ids.{Ids}
use Rattle.vesgrauf.specs.declared.config.Config.{Config}
use Rattle.vesgrauf.specs.declared.critical.Critical.{Critical}
use Rattle.vesgrauf.specs.declared.entry.Entry.{Entry}
use Rattle.vesgrauf.specs.declared.event.Event.{Event}
use Rattle.vesgrauf.specs.declared.event.EventKind.{EventKind}
use Rattle.vesgrauf.specs.declared.event.EventKind.TheVariants as event
use Rattle.vesgrauf.specs.declared.output.Output.{Output}
use Rattle.vesgrauf.specs.declared.refused.Refused.{Refused}
use Rattle.vesgrauf.specs.declared.refused.Refused.TheVariants as refused
use Rattle.vesgrauf_ready.specs.declared.rank.Priority.{Priority}
use Rattle.vesgrauf_queue.specs.Steps.{Does, Refuses}
use Rattle.vesgrauf_stream.specs.declared.error.NotSent.{NotSent}
use Rattle.vesgrauf_stream.specs.Writing.{RefusesContent, RefusesBy, Ends as EndsHalf, content_at, session_at, is_finished, is_none}
use Rattle.wtp_sending.specs.Session.{drain_wire}
use Rattle.wtp_frames.specs.declared.endpoint.Side.{Side}
use Rattle.wtp_frames.specs.declared.endpoint.Side.TheVariants.{Client, Server}
use Rattle.wtp_connection.specs.declared.connection.Known.{Known}
use Rattle.wtp_connection.specs.declared.connection.Known.TheVariants as known
use Rattle.wtp_connection.specs.Streams.{known_alone}
use Rattle.wtp_webtransport.specs.Sessions.{known_of}
use Rattle.vesgrauf_queue.specs.State.{is_full, Shows}
use Rattle.vesgrauf.specs.Streams.{ShowsOwn, is_known, is_it, Says, shown_session}
use Rattle.vesgrauf.specs.Codes.{number_of}
use Rattle.vesgrauf.specs.declared.code.StreamCode.{StreamCode}
use Rattle.vesgrauf.specs.declared.code.StreamCode.TheVariants as codes
use Rattle.vesgrauf.specs.declared.output.Scope.{Scope}
use Rattle.vesgrauf.specs.declared.output.Scope.TheVariants as scope
use Rattle.vesgrauf_queue.specs.declared.ending.Ending.TheVariants.{Open}
use Rattle.vesgrauf_stream.specs.declared.error.NotSent.TheVariants as error
use Rattle.wtp_sending.specs.declared.error.SendError.{SendError}
use Rattle.wtp_sending.specs.declared.error.SendError.TheVariants as sending
use Rattle.vesgrauf.specs.declared.output.Output.TheVariants as output
use Rattle.vesgrauf.specs.Ids.{kind_of, to_open, was, blocked, count_unopened}
use Rattle.vesgrauf.specs.Limits.{most_unopened}
use Rattle.vesgrauf.specs.declared.output.StreamKind.{StreamKind}
use Rattle.wtp_connection.specs.declared.budget.RequestBudget.{RequestBudget}
use Rattle.wtp_sending.specs.declared.control.ControlSending.{ControlSending}
use Rattle.wtp_webtransport.specs.declared.connection.Connection.{Connection as Shared}

-- what the program and QUIC see of a connection
pub record View : Type 0 where
  pub streams : List (ℕ × Entry)
  pub config : Config
  pub shared : Shared
  pub control : Critical
  pub decoder : Critical
  pub encoder : Critical
  pub goaways : ControlSending
  pub told : List ℕ
  pub ids : Ids
  pub events : List Event
  pub outputs : List Output
  pub datagrams : List (Vec ℕ Global)
  pub budget : RequestBudget
  pub sessions : ℕ
  pub is_blocked : Bool
  pub is_configured : Bool
  pub is_leaving : Bool
  pub ended : Option Ended
  pub closes : Option ℕ

abbrev pub view_of : Connection → View
view_of c = record {
  streams = c.streams.entries;
  config = c.config;
  shared = c.shared;
  control = c.control;
  decoder = c.decoder;
  encoder = c.encoder;
  goaways = c.goaways;
  told = c.told.items;
  ids = c.ids;
  events = c.events.items;
  outputs = c.outputs.items;
  datagrams = c.datagrams.queue.items;
  budget = c.budget;
  sessions = c.sessions;
  is_blocked = c.is_blocked;
  is_configured = c.is_configured;
  is_leaving = c.is_leaving;
  ended = c.ended;
  closes = c.closes;
}

-- the stream with this ID
abbrev pub stream_at : Connection → ℕ → Option Entry
stream_at c id = lookup (is_at (nat_cmp id)) c.streams.entries

-- one that a program may name: none that the peer keeps for the connection
abbrev pub named : Option Entry → Option Entry
named None = None
named (Some e) = if e.is_quiet then None else Some e

abbrev pub named_at : Connection → ℕ → Option Entry
named_at c id = named (stream_at c id)

abbrev pub with_stream : View → ℕ → Entry → View
with_stream v id e = record v { streams = set_value (is_at (nat_cmp id)) v.streams e }

-- nothing changed that the program or QUIC sees
abbrev pub IsStill : Connection → Connection → Type 0
IsStill c d = view_of d ≡ view_of c

-- it is a value, and this is so of it
abbrev pub IsSomeOk : {A E : Type 0} → Result (Option A) E → (A → Type 0) → Type 0
IsSomeOk result P = IfOk result (λ r. IfSome r P)

-- a call is refused: memory is refused, or nothing changed
abbrev pub IsRefused : Refused → Connection → Connection → Type 0
IsRefused e c d = (e ≡ refused.Memory) ⊎ IsStill c d

-- it is refused for what this says, or memory is refused
abbrev pub IsRefusedBy : {A : Type 0} → Result A Refused → Refused → Connection → Connection → Type 0
IsRefusedBy why e c d = (e ≡ refused.Memory) ⊎ ((why ≡ Err e) × (d ≡ c))

-- there is a stream, and this is so of it
abbrev pub Of : Option Entry → (Entry → Type 0) → Type 0
Of None P = ⊥
Of (Some e) P = P e

-- there is such a stream that a program may name, it becomes this, and no other stream and nothing else changes
abbrev pub Becomes : ℕ → (Entry → Entry) → Connection → Connection → Type 0
Becomes id f c d = Of (named_at c id) (λ e. view_of d ≡ with_stream (view_of c) id (f e))

-- there is such a stream, its own half changes in this way, and nothing else does
abbrev pub Changes : ℕ → (Writing → Writing → Type 0) → Connection → Connection → Type 0
Changes id How c d = Of (stream_at c id)
    (λ e. (w : Writing) × How e.writing w × (view_of d ≡ with_stream (view_of c) id (record e { writing = w })))

-- an output is queued, if this is so
abbrev pub with_output : Bool → Output → View → View
with_output true o v = record v { outputs = v.outputs ++ (o ∷ []) }
with_output false o v = v

abbrev pub differs : Bool → Bool → Bool
differs true b = not b
differs false b = b

-- there is such a stream, and it is paused or not; QUIC is told so if that changes and it has opened the stream
abbrev pub Pauses : ℕ → Bool → Connection → Connection → Type 0
Pauses id p c d = Of (named_at c id)
    (λ e. view_of d ≡ with_output (e.is_opened && differs e.is_paused p) (output.Read id (not p))
    (with_stream (view_of c) id (record e { is_paused = p })))

-- there is such a stream, it has this priority, and QUIC is told so if it has opened the stream
abbrev pub Prioritizes : ℕ → Priority → Connection → Connection → Type 0
Prioritizes id p c d = Of (named_at c id)
    (λ e. view_of d ≡ with_output e.is_opened (output.Prioritize id p)
    (with_stream (view_of c) id (record e { priority = p })))

-- the connection ended
abbrev pub is_over : Connection → Bool
is_over c = is_some c.ended

-- what begins on the own critical streams is another connection's
abbrev pub with_begun : Connection → View → View
with_begun d v = record v {
  control = d.control;
  decoder = d.decoder;
  encoder = d.encoder;
  goaways = d.goaways;
  told = d.told.items;
  ids = d.ids;
}

-- ---- sessions

-- What is known of a session of which no stream is left: at a client all of its requests are over. No other ID is one of a
-- session (draft-ietf-webtrans-http3-02, section 4).
abbrev pub known_else : Side → Connection → ℕ → Known
known_else Server c id = known_alone c.shared.streams id
known_else Client c id = if id % 4 == 0 && was c.ids id then known.Over else known.Impossible

-- one that was open is over once its streams were cut
abbrev pub unless_over : (counts : Bool) → Known → Known
unless_over false known.Open = known.Over
unless_over counts other = other

abbrev pub known_by : Option Entry → Connection → ℕ → Known
known_by (Some e) c id = unless_over e.has_session (known_of c.shared e.reading.stream)
known_by None c id = known_else c.config.side c id

abbrev pub known_in : Connection → ℕ → Known
known_in c id = known_by (stream_at c id) c id

-- it is open, or why a call on it is refused
abbrev pub open_of : Known → Result (Unit {0}) Refused
open_of known.Open = Ok tt
open_of known.Over = Err refused.SessionGone
open_of known.Refused = Err refused.SessionGone
open_of _ = Err refused.NotOpen

abbrev pub open_session : Connection → ℕ → Result (Unit {0}) Refused
open_session c id = if is_over c then Err refused.Closed else open_of (known_in c id)

-- ---- own streams that QUIC is to open

-- fewer of a kind wait than may, of which there is at least one
abbrev pub may_wait : Connection → StreamKind → Bool
may_wait c k = nat_lt (count_unopened c.ids k) (most_unopened c.config)

abbrev pub room_for : Connection → StreamKind → Result (Unit {0}) Refused
room_for c k = if may_wait c k then Ok tt else Err refused.Full

-- ---- codes of resets and stops

-- on a stream of a session the application's, and on any other one of HTTP/3
abbrev pub fits : Bool → StreamCode → Bool
fits in_session (codes.Http n) = not in_session
fits in_session (codes.Application n) = in_session

abbrev pub code_by : Option Entry → StreamCode → Result ℕ Refused
code_by None c = Err refused.NoStream
code_by (Some e) c =
    if e.is_quiet then Err refused.NoStream
    else if fits (is_some e.session) c then Ok (number_of c)
    else Err refused.WrongCode

-- the number that QUIC sends for one on this stream, or why it is refused
abbrev pub code_on : Connection → ℕ → StreamCode → Result ℕ Refused
code_on c id k = if is_over c then Err refused.Closed else code_by (stream_at c id) k

-- ---- what QUIC is to do

abbrev pub head : {A : Type 0} → List A → Option A
head [] = None
head (x ∷ xs) = Some x

-- a stream that is to be opened comes before all else
abbrev pub output_or : Option ℕ → List Output → Option Output
output_or (Some id) others = Some (output.Open id (kind_of id))
output_or None others = head others

abbrev pub output_unless : Bool → Connection → Option Output
output_unless true c = None
output_unless false c = output_or (to_open c.ids) c.outputs.items

-- the end of the connection is all that is to be done after it
abbrev pub output_by : Option ℕ → Connection → Option Output
output_by (Some code) c = Some (output.Close code)
output_by None c = output_unless (is_over c) c

abbrev pub next_output : Connection → Option Output
next_output c = output_by c.closes c

-- What QUIC is to send next: the next bytes of an own critical stream that is due, or of another stream.
abbrev pub ShowsNext : Connection → (id : ℕ) → (bytes more : List ℕ) → (fin : Bool) → Type 0
ShowsNext c id bytes more fin =
    ShowsOwn c.control id bytes more fin
    ⊎ (ShowsOwn c.decoder id bytes more fin
    ⊎ (ShowsOwn c.encoder id bytes more fin
    ⊎ Of (stream_at c id) (λ e. Shows e.writing.queue bytes more fin)))

-- this is an own critical stream
abbrev pub is_own : Connection → ℕ → Bool
is_own c id = is_it id c.control.id || (is_it id c.decoder.id || is_it id c.encoder.id)

-- QUIC has opened this stream: an own critical one, or another one, unless that is forgotten
abbrev pub opened_by : Option Entry → Bool
opened_by None = true
opened_by (Some e) = e.is_opened

abbrev pub is_opened_at : Connection → ℕ → Bool
is_opened_at c id =
    if is_it id c.control.id then c.control.is_opened
    else if is_it id c.decoder.id then c.decoder.is_opened
    else if is_it id c.encoder.id then c.encoder.is_opened
    else opened_by (stream_at c id)

-- QUIC takes nothing of a stream for now, or does again
abbrev pub with_block : Bool → Critical → Critical
with_block b c = record c { is_blocked = b }

abbrev pub blocked_by : Option Entry → View → ℕ → Bool → View
blocked_by None v id b = v
blocked_by (Some e) v id b = with_stream v id (record e { is_blocked = b })

abbrev pub blocked_in : Connection → ℕ → Bool → View
blocked_in c id b =
    if is_it id c.control.id then record (view_of c) { control = with_block b c.control }
    else if is_it id c.decoder.id then record (view_of c) { decoder = with_block b c.decoder }
    else if is_it id c.encoder.id then record (view_of c) { encoder = with_block b c.encoder }
    else blocked_by (stream_at c id) (view_of c) id b

-- the same of streams of a kind that are to be opened, and of all streams
abbrev pub blocked_at : Scope → Connection → Bool → View
blocked_at (scope.Stream id) c b = blocked_in c id b
blocked_at (scope.Kind k) c b = record (view_of c) { ids = blocked c.ids k b }
blocked_at scope.All c b = record (view_of c) { is_blocked = b }

-- ---- calls on the own half of a stream

-- the own half alone changes, in this way
abbrev pub OwnHalf : (Writing → Writing → Type 0) → Entry → Entry → Type 0
OwnHalf How e f = (w : Writing) × How e.writing w × (f ≡ record e { writing = w })

-- nothing is queued, and a `Writable` is owed
abbrev pub Owes : Writing → Writing → Type 0
Owes w v = (v.half ≡ w.half) × Does Refuses w.queue v.queue

-- a call that is refused changes nothing, but that a `Writable` is owed if the stream is full
abbrev pub StaysFor : Refused → ℕ → Connection → Connection → Type 0
StaysFor refused.Full id c d = Changes id Owes c d
StaysFor other id c d = IsStill c d

-- why a call is refused, as the program is told
abbrev pub refused_by : SendError → Refused
refused_by sending.Memory = refused.Memory
refused_by e = refused.Send e

abbrev pub refused_for : NotSent → Refused
refused_for error.None = refused.NoStream
refused_for error.Over = refused.Over
refused_for error.TooLong = refused.TooLarge
refused_for (error.Send e) = refused_by e

-- The connection is over; or memory is refused; or there is no such stream; or the own half of the stream refuses the
-- call, for this reason.
abbrev pub IsWhyOf : Option Entry → (Writing → Refused → Type 0) → Refused → Type 0
IsWhyOf None How e = e ≡ refused.NoStream
IsWhyOf (Some x) How e = How x.writing e

abbrev pub IsWhyBy : Bool → Option Entry → (Writing → Refused → Type 0) → Refused → Type 0
IsWhyBy true x How e = e ≡ refused.Closed
IsWhyBy false x How e = (e ≡ refused.Memory) ⊎ IsWhyOf x How e

-- The connection is over; or memory is refused; or there is no such stream that a program may name.
abbrev pub IsWhyNamed : Connection → ℕ → Refused → Type 0
IsWhyNamed c id e = IsWhyBy (is_over c) (named_at c id) (λ _ _. ⊥) e

abbrev pub IsWhy : (Writing → Refused → Type 0) → Connection → ℕ → Refused → Type 0
IsWhy How c id e = IsWhyBy (is_over c) (stream_at c id) How e

-- the same call is refused ever after
abbrev pub is_gone : Refused → Bool
is_gone refused.Closed = true
is_gone refused.NoStream = true
is_gone refused.Over = true
is_gone refused.SessionGone = true
is_gone other = false

-- the own half refuses it for this reason, as the program is told
abbrev pub IsFor : (Writing → NotSent → Type 0) → Writing → Refused → Type 0
IsFor How w e = (why : NotSent) × (e ≡ refused_for why) × How w why

-- a stream that is full refuses content before all else
abbrev pub RefusesBytes : ℕ → Bool → Writing → Refused → Type 0
RefusesBytes n fin w refused.Full = (w.queue.ending ≡ Open) × (is_full w.queue ≡ true)
RefusesBytes n fin w e = IsFor (λ v x. RefusesContent v n fin x) w e

-- the program was told that a stream is full, and the `Writable` is still to come
abbrev pub was_told_full : Connection → ℕ → Bool
was_told_full c id = list_any (is_at (nat_cmp id)) c.full.keys

-- so it changes nothing of a stream, but that a `Writable` is owed if it is full
abbrev pub StaysOf : Refused → Entry → Entry → Type 0
StaysOf refused.Full e f = OwnHalf Owes e f
StaysOf other e f = f ≡ e

-- why the end is refused
abbrev pub RefusesEnd : Writing → Refused → Type 0
RefusesEnd w e = IsFor (λ v x. content_at v 0 true ≡ Err x) w e

-- The own half was finished, or there is none; or the stream is forgotten.
abbrev pub was_finished_by : Option Entry → Ids → ℕ → Bool
was_finished_by (Some e) ids id = is_finished e.writing.queue.ending || is_none e.writing.half
was_finished_by None ids id = was ids id

abbrev pub was_finished : Connection → ℕ → Bool
was_finished c id = was_finished_by (stream_at c id) c.ids id

-- the end is queued, or nothing changes
abbrev pub FinishesUnless : Bool → ℕ → Connection → Connection → Type 0
FinishesUnless true id c d = IsStill c d
FinishesUnless false id c d = Changes id EndsHalf c d

-- why the capsule that announces the end of a session is refused
abbrev pub RefusesDrain : Writing → Refused → Type 0
RefusesDrain w e = IsFor (λ v x. RefusesBy (session_at v) v (length drain_wire) x) w e

-- ---- the end of the connection

-- the last event of a stream
abbrev pub is_closed : EventKind → Bool
is_closed (event.Closed why) = true
is_closed other = false

abbrev pub closes_stream : Event → Bool
closes_stream e = is_closed e.kind

-- what may be told after the end of the connection: the last events of streams, and its own
abbrev pub is_last : EventKind → Bool
is_last (event.Closed why) = true
is_last (event.ConnectionClosed code by_peer) = true
is_last other = false

-- events of which one is not the last of its stream
abbrev pub go_on : List Event → Bool
go_on events = list_any (λ e. not (closes_stream e)) events

-- it is over, and of what is still to be told there are only last events of streams
pub record IsAfterEnd (c : Connection) : Type 0 where
  pub over : is_over c ≡ true
  pub events : go_on c.events.items ≡ false

-- an event of the stream with this ID, if the program knows of it
abbrev pub told_on : Option Entry → ℕ → EventKind → Step
told_on None id k = step.More
told_on (Some e) id k =
    if is_known e.told then step.Told (record { stream = id; session = shown_session id e; user = e.user; kind = k })
    else step.More

-- the program knows of the stream with this ID, and was not told that it is over
abbrev pub knows_of : Option Entry → Bool
knows_of None = false
knows_of (Some e) = is_known e.told

-- a step tells an event of which this is so, if it tells one
abbrev pub IsTold : Step → (Event → Type 0) → Type 0
IsTold s P = (e : Event) → s ≡ step.Told e → P e

-- It ends with this code, which QUIC is to close it with: what was to be told or done is dropped, but for the last events of
-- streams.
abbrev pub with_end : ℕ → Shared → View → View
with_end code shared v = record v {
  shared = shared;
  events = filter closes_stream v.events;
  outputs = [];
  datagrams = [];
  ended = Some (record { code = code; by_peer = false; is_told = false });
  closes = Some code;
}

pub record Ends (code : ℕ) (c d : Connection) : Type 0 where
  pub view : view_of d ≡ with_end code d.shared (view_of c)
  pub settings : d.shared.streams.peer ≡ c.shared.streams.peer

-- it ends, or had ended: then nothing changes
abbrev pub EndsUnless : Bool → ℕ → Connection → Connection → Type 0
EndsUnless true code c d = d ≡ c
EndsUnless false code c d = Ends code c d

-- ---- the own streams of QPACK

-- those of another connection
abbrev pub with_own : Connection → View → View
with_own d v = record v { decoder = d.decoder; encoder = d.encoder; told = d.told.items }

-- nothing else changes
abbrev pub IsStillBut : Connection → Connection → Type 0
IsStillBut c d = view_of d ≡ with_own d (view_of c)

-- a stream that has an ID queues the bytes that wait, of which this is the rest
abbrev pub SaysBy : Option ℕ → (bytes rest : List ℕ) → Critical → Critical → Type 0
SaysBy None bytes rest c d = (rest ≡ bytes) × (d ≡ c)
SaysBy (Some id) bytes rest c d = (rest ≡ []) × Says bytes c d

abbrev pub SaysAll : (bytes rest : List ℕ) → Critical → Critical → Type 0
SaysAll bytes rest c d = SaysBy c.id bytes rest c d

-- it does, or without memory they wait on
abbrev pub SaysOrWaits : (bytes rest : List ℕ) → Critical → Critical → Type 0
SaysOrWaits bytes rest c d = SaysAll bytes rest c d ⊎ ((rest ≡ bytes) × (d ≡ c))

-- what waits is queued on each of them
pub record Instructs (How : (bytes rest : List ℕ) → Critical → Critical → Type 0) (c d : Connection) : Type 0 where
  pub others : IsStillBut c d
  pub decoder : How c.told.items d.told.items c.decoder d.decoder
  pub encoder : How c.tools.instructions.items d.tools.instructions.items c.encoder d.encoder
  pub table : d.tools.encoder ≡ c.tools.encoder
