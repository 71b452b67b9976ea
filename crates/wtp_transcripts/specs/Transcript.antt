-- What happens on a connection of many streams, in any order, and what is found on each of them.
use Rattle.std.specs.Prelude.{◌≡◌, ◌⊎◌, ℕ, ◌+◌, ◌<◌, ◌==◌, ◌||◌, if◌then◌else◌, Bool, true, false, List, [], ◌∷◌, ◌++◌, map, drop, Option, Some, None, Ok}
use Rattle.wtp_frames.specs.declared.endpoint.Endpoint.{Endpoint}
use Rattle.wtp_connection.specs.declared.connection.Connection.{Connection}
use Rattle.wtp_connection.specs.declared.connection.Found.{Found}
use Rattle.wtp_connection.specs.declared.connection.Found.TheVariants as found
use Rattle.wtp_connection.specs.declared.connection.Known.{Known}
use Rattle.wtp_connection.specs.declared.connection.Known.TheVariants as known
use Rattle.wtp_connection.specs.declared.fault.Fault.{Fault}
use Rattle.wtp_connection.specs.declared.settings.PeerSettings.{PeerSettings}
use Rattle.wtp_connection.specs.declared.stream.Purpose.{Purpose}
use Rattle.wtp_connection.specs.declared.stream.Purpose.TheVariants as «for»
use Rattle.wtp_connection.specs.declared.stream.Stream.{Stream}
use Rattle.wtp_connection.specs.declared.stream.Stream.TheVariants.{Joining, Waiting}
use Rattle.wtp_connection.specs.Datagrams.{Taken, taken, after_taken}
use Rattle.wtp_connection.specs.Opening.{connected, is_for_critical}
use Rattle.wtp_connection.specs.Resumption.{loses_capacity, loses_limits}
use Rattle.wtp_connection.specs.Receiving.{seen_of, rest_after, FoundIs}
use Rattle.wtp_connection.specs.Streams.{connection_of, resuming_of, accepts, Seen, Configured, Broke, Ended, StreamRun, rests, run_stream, ended, most_waiting, Joined, joins, tells_interim, resets, stops, overflows, abandons}

-- ---- one stream is read

-- all that is found in these bytes, and at the end of the stream if it comes after them
abbrev pub read : Bool → Connection → Stream → List ℕ → StreamRun
read fin c s bytes = if fin then ended (run_stream c s bytes) else run_stream c s bytes

-- Calls of `receive` return these things, each with the bytes that the one before left, and then one
-- needs more bytes.
abbrev pub AreCalls : List Found → Bool → Connection → Stream → List ℕ → Connection → Stream → List ℕ → Type 0
AreCalls [] fin c s bytes d t left =
    (n : ℕ) × FoundIs (found.More n) c s bytes fin d t × (left ≡ drop n bytes)
AreCalls (x ∷ xs) fin c s bytes d t left =
    (e : Connection)
    × (u : Stream)
    × FoundIs x c s bytes fin e u
    × AreCalls xs fin e u (rest_after x bytes) d t left

-- a frame or bytes
abbrev pub IsPiece : Found → Type 0
IsPiece (found.Settings v start end) = Unit {0}
IsPiece (found.Frame kind start end) = Unit {0}
IsPiece (found.Data start end) = Unit {0}
IsPiece (found.TooLarge size n) = Unit {0}
IsPiece other = ⊥

-- what calls find, where these bytes are left at first
abbrev pub seen_by : List Found → List ℕ → List Seen
seen_by [] bytes = []
seen_by (x ∷ xs) bytes = seen_of x bytes ++ seen_by xs (rest_after x bytes)

-- ---- what happens to a stream

-- the state of a stream, its bytes that are left, and whether its end came
pub record Held : Type 0 where
  pub stream : Stream
  pub left : List ℕ
  pub fin : Bool

-- bytes of a stream come, which may be its last; it is said what is known of its session; the HEADERS
-- that it gave last are said to be those of an interim response, or to make it a tunnel; the peer resets
-- it; more of its bytes are left than the caller holds; or the application reads it no further
pub data Event : Type 0 where
  Came : List ℕ → Bool → Event
  Told : Known → Event
  Interim : Event
  Tunnelled : Event
  Reset : Event
  Overflowed : Event
  Abandoned : Event

-- what is found by an event, and the connection and what is held of the stream after it
pub record Outcome : Type 0 where
  pub seen : List Seen
  pub connection : Connection
  pub held : Held

abbrev pub outcome_of : Bool → StreamRun → Outcome
outcome_of fin x = record {
  seen = x.seen;
  connection = x.connection;
  held = record { stream = x.stream; left = x.left; fin = fin };
}

abbrev pub after_seen : List Seen → Outcome → Outcome
after_seen seen x =
    record { seen = seen ++ x.seen; connection = x.connection; held = x.held }

-- an error that a call returns
abbrev pub answered : Option Fault → List Seen
answered None = []
answered (Some f) = Broke f ∷ []

-- what the call does that tells the connection of an event
abbrev pub called : Connection → Stream → Event → Joined
called c s (Came bytes fin) = (c, s, None)
called c s (Told k) = joins c s k
called c s Interim = tells_interim c s
called c s Tunnelled = (c, connected s, None)
called c s Reset = resets c s
called c s Overflowed = overflows c s
called c s Abandoned = ((abandons c s).0, (abandons c s).1, None)

-- the bytes that are to be read then
abbrev pub unread : Held → Event → List ℕ
unread h (Came bytes fin) = h.left ++ bytes
unread h other = h.left

-- whether the end of the stream comes after them
abbrev pub ends : Held → Event → Bool
ends h (Came bytes fin) = h.fin || fin
ends h other = h.fin

-- the stream is read from there on
abbrev pub reads_on : Bool → List ℕ → Joined → Outcome
reads_on fin left x = after_seen (answered x.2) (outcome_of fin (read fin x.0 x.1 left))

-- What an event of a stream does: after its call the stream is read until more bytes are needed.
abbrev pub happens : Connection → Held → Event → Outcome
happens c h e = reads_on (ends h e) (unread h e) (called c h.stream e)

-- events of a stream, one after the other, on a connection that has no other one
abbrev pub alone : Connection → Held → List Event → Outcome
alone c h [] = record { seen = []; connection = c; held = h }
alone c h (e ∷ events) =
    after_seen (happens c h e).seen
    (alone (happens c h e).connection (happens c h e).held events)

-- ---- all bytes of a stream

-- all bytes that come, joined
abbrev pub bytes_in : List Event → List ℕ
bytes_in [] = []
bytes_in (Came bytes fin ∷ events) = bytes ++ bytes_in events
bytes_in (other ∷ events) = bytes_in events

-- whether the end of a stream comes
abbrev pub end_in : List Event → Bool
end_in [] = false
end_in (Came bytes fin ∷ events) = fin || end_in events
end_in (other ∷ events) = end_in events

-- what is said last of its session, where this was said before
abbrev pub last_said : Option Known → List Event → Option Known
last_said o [] = o
last_said o (Told k ∷ events) = last_said (Some k) events
last_said o (other ∷ events) = last_said o events

abbrev pub said : Option Known → List Event
said None = []
said (Some k) = Told k ∷ []

-- all bytes come at once, with the end if it comes, and then what is said last of the session is said
abbrev pub at_once : List Event → List Event
at_once events = Came (bytes_in events) (end_in events) ∷ said (last_said None events)

-- bytes come before these events
abbrev pub before_all : List ℕ → Bool → List Event → List Event
before_all bytes fin [] = Came bytes fin ∷ []
before_all bytes fin (Came more last ∷ events) = Came (bytes ++ more) (fin || last) ∷ events
before_all bytes fin (other ∷ events) = Came bytes fin ∷ other ∷ events

-- the same events, where all bytes that come between two others come at once
abbrev pub joined : List Event → List Event
joined [] = []
joined (Came bytes fin ∷ events) = before_all bytes fin (joined events)
joined (other ∷ events) = other ∷ joined events

-- no bytes come after the end
abbrev pub EndsOnce : Bool → List Event → Type 0
EndsOnce ended [] = Unit {0}
EndsOnce ended (Came bytes fin ∷ events) =
    (ended ≡ true → bytes ≡ []) × EndsOnce (ended || fin) events
EndsOnce ended (other ∷ events) = EndsOnce ended events

-- it is to be joined with its session
abbrev pub IsToJoin : Stream → Type 0
IsToJoin (Joining s) = Unit {0}
IsToJoin (Waiting s) = Unit {0}
IsToJoin other = ⊥

-- Bytes of a stream come, none of them after its end; something is said of its session while it is to be
-- joined; and nothing else happens to it.
abbrev pub IsRead : Connection → Held → List Event → Type 0
IsRead c h [] = Unit {0}
IsRead c h (Came bytes fin ∷ events) =
    (h.fin ≡ true → bytes ≡ [])
    × IsRead (happens c h (Came bytes fin)).connection (happens c h (Came bytes fin)).held events
IsRead c h (Told k ∷ events) =
    IsToJoin h.stream × IsRead (happens c h (Told k)).connection (happens c h (Told k)).held events
IsRead c h (other ∷ events) = ⊥

-- nothing can be found of what is left of a stream, and its end did not come
pub record IsStill (c : Connection) (h : Held) : Type 0 where
  pub still : run_stream c h.stream h.left ≡ rests c h.stream h.left
  pub unended : h.fin ≡ false

-- ---- what happens to a connection

-- the caller's streams, by their IDs
abbrev pub Table : Type 0
Table = ℕ → Held

abbrev pub with_held : ℕ → Held → Table → Table
with_held n h t = λ k. if n == k then h else t k

-- The peer opens a stream, of which the table has the state that `accept` returns; the peer asks to stop
-- an own stream for this purpose; a datagram comes; or an event of a stream.
pub data Step : Type 0 where
  Accepted : ℕ → Step
  Stopped : Purpose → Step
  Datagram : List ℕ → Step
  On : ℕ → Event → Step

abbrev pub Transcript : Type 0
Transcript = List Step

-- a connection, and the caller's streams
pub record State : Type 0 where
  pub connection : Connection
  pub streams : Table

-- a connection before its first byte, with these streams
abbrev pub begin : Endpoint → Table → State
begin e t = record { connection = connection_of e; streams = t }

-- the same, where a client resumes a session with these settings of the server
abbrev pub resumes : Endpoint → PeerSettings → Table → State
resumes e v t = record { connection = resuming_of e v; streams = t }

-- what an event of stream n does
abbrev pub at_stream : State → ℕ → Event → Outcome
at_stream x n e = happens x.connection (x.streams n) e

-- the state after a step
abbrev pub next : State → Step → State
next x (Accepted n) =
    record { connection = (accepts x.connection n).0; streams = x.streams }
next x (Stopped p) =
    record { connection = (stops x.connection p).0; streams = x.streams }
next x (Datagram bytes) = record {
  connection = after_taken x.connection (taken x.connection bytes);
  streams = x.streams;
}
next x (On n e) = record {
  connection = (at_stream x n e).connection;
  streams = with_held n (at_stream x n e).held x.streams;
}

-- the state after all steps
abbrev pub after : State → Transcript → State
after x [] = x
after x (a ∷ steps) = after (next x a) steps

-- ---- what is found

abbrev pub marked : ℕ → List Seen → List (ℕ × Seen)
marked n seen = map (λ i. (n, i)) seen

-- what is found by a step, each with its stream
abbrev pub found_by : State → Step → List (ℕ × Seen)
found_by x (On n e) = marked n (at_stream x n e).seen
found_by x other = []

-- all that is found, in order, each with its stream
abbrev pub seen_in : State → Transcript → List (ℕ × Seen)
seen_in x [] = []
seen_in x (a ∷ steps) = found_by x a ++ seen_in (next x a) steps

-- the datagrams that come
abbrev pub datagrams_in : Transcript → List (List ℕ)
datagrams_in [] = []
datagrams_in (Datagram bytes ∷ steps) = bytes ∷ datagrams_in steps
datagrams_in (other ∷ steps) = datagrams_in steps

-- what the connection takes each of them for, in their order
abbrev pub taken_in : State → Transcript → List Taken
taken_in x [] = []
taken_in x (Datagram bytes ∷ steps) =
    taken x.connection bytes ∷ taken_in (next x (Datagram bytes)) steps
taken_in x (other ∷ steps) = taken_in (next x other) steps

-- what is found on stream n, in its order
abbrev pub on_stream : ℕ → List (ℕ × Seen) → List Seen
on_stream n [] = []
on_stream n (x ∷ seen) = if x.0 == n then x.1 ∷ on_stream n seen else on_stream n seen

-- the events of stream n
abbrev pub events_of : ℕ → Transcript → List Event
events_of n [] = []
events_of n (On m e ∷ steps) = if m == n then e ∷ events_of n steps else events_of n steps
events_of n (other ∷ steps) = events_of n steps

-- ---- streams that wait

-- the end of a stream, if it comes
abbrev pub end_seen : Bool → List Seen
end_seen true = Ended ∷ []
end_seen false = []

-- how many of the 16 places to wait a stream takes
abbrev pub places : Stream → ℕ
places (Waiting s) = 1
places other = 0

-- how many of these streams wait
abbrev pub waiting_among : List ℕ → Table → ℕ
waiting_among [] t = 0
waiting_among (n ∷ ns) t = places (t n).stream + waiting_among ns t

abbrev pub is_among : ℕ → List ℕ → Bool
is_among n [] = false
is_among n (m ∷ ns) = n == m || is_among n ns

-- no ID comes twice
abbrev pub AreDistinct : List ℕ → Type 0
AreDistinct [] = Unit {0}
AreDistinct (n ∷ ns) = (is_among n ns ≡ false) × AreDistinct ns

-- all events are of streams with these IDs
abbrev pub AreOf : List ℕ → Transcript → Type 0
AreOf ns [] = Unit {0}
AreOf ns (On n e ∷ steps) = (is_among n ns ≡ true) × AreOf ns steps
AreOf ns (other ∷ steps) = AreOf ns steps

-- ---- places to wait

-- a stream whose session is to come has a place to wait
abbrev pub HasPlace : Connection → Stream → Event → Type 0
HasPlace c (Joining s) (Told known.Coming) = c.waiting < most_waiting
HasPlace c other e = Unit {0}

abbrev pub StepHasPlace : ℕ → State → Step → Type 0
StepHasPlace n x (On m e) = m ≡ n → HasPlace x.connection (x.streams m).stream e
StepHasPlace n x other = Unit {0}

-- stream n has a place whenever it is to wait
abbrev pub HasPlaces : ℕ → State → Transcript → Type 0
HasPlaces n x [] = Unit {0}
HasPlaces n x (a ∷ steps) = StepHasPlace n x a × HasPlaces n (next x a) steps

-- ---- a peer that keeps the rules

-- whether the peer opened the stream for this purpose, of which it may open one
abbrev pub is_opened : Connection → Purpose → Bool
is_opened c «for».Control = c.control
is_opened c «for».Encoder = c.encoder
is_opened c «for».Decoder = c.decoder
is_opened c other = false

-- stream n on a connection that has no other one
abbrev pub alone_on : Endpoint → Table → ℕ → Transcript → Outcome
alone_on e t n steps = alone (connection_of e) (t n) (events_of n steps)

-- the peer asks to stop no own stream that may not be closed (RFC 9114, section 6.2.1; RFC 9204,
-- section 4.2)
abbrev pub StopsNone : Transcript → Type 0
StopsNone [] = Unit {0}
StopsNone (Stopped p ∷ steps) = (is_for_critical p ≡ false) × StopsNone steps
StopsNone (other ∷ steps) = StopsNone steps

-- no datagram alone is an error
abbrev pub AreTaken : Endpoint → Transcript → Type 0
AreTaken e [] = Unit {0}
AreTaken e (Datagram bytes ∷ steps) =
    ((d : Option (ℕ × List ℕ)) × (taken (connection_of e) bytes ≡ Ok d)) × AreTaken e steps
AreTaken e (other ∷ steps) = AreTaken e steps

-- No stream and no datagram alone has an error that ends the connection; and of control, encoder and
-- decoder streams there is at most one each.
pub record KeepsRules (e : Endpoint) (t : Table) (steps : Transcript) : Type 0 where
  pub sound : (n : ℕ) → (alone_on e t n steps).connection.over ≡ false
  pub once : (p : Purpose) (n m : ℕ)
      → is_opened (alone_on e t n steps).connection p ≡ true
      → is_opened (alone_on e t m steps).connection p ≡ true → n ≡ m
  pub stops : StopsNone steps
  pub datagrams : AreTaken e steps

-- each stream has a place whenever it is to wait
abbrev pub AllHavePlaces : State → Transcript → Type 0
AllHavePlaces x steps = (n : ℕ) → HasPlaces n x steps

-- it is said of no streams but these that their session is to come
abbrev pub WaitAmong : List ℕ → Transcript → Type 0
WaitAmong ns [] = Unit {0}
WaitAmong ns (On n (Told known.Coming) ∷ steps) = (is_among n ns ≡ true) × WaitAmong ns steps
WaitAmong ns (other ∷ steps) = WaitAmong ns steps

-- no stream waits at first
abbrev pub NoneWaits : Table → Type 0
NoneWaits t = (n : ℕ) → places (t n).stream ≡ 0

-- the same bytes of stream n come, with its end or without it, and the same is said last of its session
pub record SameBytes (e : Endpoint) (t : Table) (n : ℕ) (first second : Transcript) : Type 0 where
  pub still : IsStill (connection_of e) (t n)
  pub read_first : IsRead (connection_of e) (t n) (events_of n first)
  pub read_second : IsRead (connection_of e) (t n) (events_of n second)
  pub bytes : bytes_in (events_of n second) ≡ bytes_in (events_of n first)
  pub end : end_in (events_of n second) ≡ end_in (events_of n first)
  pub said : last_said None (events_of n second) ≡ last_said None (events_of n first)

-- the same is said and done of stream n, and between two such events the same bytes of it come
pub record SameCalls (t : Table) (n : ℕ) (first second : Transcript) : Type 0 where
  pub once_first : EndsOnce (t n).fin (events_of n first)
  pub once_second : EndsOnce (t n).fin (events_of n second)
  pub same : joined (events_of n second) ≡ joined (events_of n first)

-- The same bytes of stream n come, with its end or without it, and the same is said last of its session;
-- or the same events of it happen, however its bytes are cut between them.
abbrev pub SameOn : Endpoint → Table → ℕ → Transcript → Transcript → Type 0
SameOn e t n first second =
    (events_of n second ≡ events_of n first)
    ⊎ (SameBytes e t n first second ⊎ SameCalls t n first second)

-- ---- a session that is resumed

-- SETTINGS that lose something of what is remembered
abbrev pub loses : PeerSettings → Seen → Bool
loses old (Configured v payload) = loses_capacity old v || loses_limits old v
loses old other = false

abbrev pub loses_any : PeerSettings → List (ℕ × Seen) → Bool
loses_any old [] = false
loses_any old (x ∷ seen) = loses old x.1 || loses_any old seen

-- No SETTINGS of the peer lose anything of what is remembered, as far as they are found where no session
-- is resumed.
abbrev pub KeepsRemembered : Endpoint → PeerSettings → Table → Transcript → Type 0
KeepsRemembered e v t steps = loses_any v (seen_in (begin e t) steps) ≡ false
