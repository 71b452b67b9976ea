-- The run of a stream's bytes under the state of the connection, and its end (RFC 9114, sections 6,
-- 7.1 and 8).
use Rattle.std.specs.Prelude.{◌≡◌, ℕ, ◌+◌, ◌-◌, ◌/◌, ◌%◌, ◌==◌, nat_lt, ◌&&◌, ◌||◌, not, if◌then◌else◌, Bool, true, false, List, [], ◌∷◌, ◌++◌, map, length, Option, Some, None, Result, Ok, Err}
use Rattle.std.specs.List.{list_all}
use Rattle.wtp_core.specs.declared.error.scope.ErrorScope.{ErrorScope}
use Rattle.wtp_core.specs.declared.error.scope.ErrorScope.TheVariants as scope
use Rattle.wtp_frames.specs.declared.endpoint.Endpoint.{Endpoint}
use Rattle.wtp_frames.specs.declared.endpoint.Side.{Side}
use Rattle.wtp_frames.specs.declared.endpoint.Side.TheVariants.{Client, Server}
use Rattle.wtp_frames.specs.declared.fault.Fault.{Fault as StreamFault}
use Rattle.wtp_frames.specs.declared.fault.Fault.TheVariants as stream
use Rattle.wtp_frames.specs.declared.frame_type.FrameType.TheVariants as kind
use Rattle.wtp_frames.specs.Item.{Item, Whole, Byte, TooLarge, Broken}
use Rattle.wtp_frames.specs.Run.{Run, run}
use Rattle.wtp_frames.specs.declared.reader.Reader.{Reader}
use Rattle.wtp_frames.specs.Grammar.{Interim, interim_bytes, interim_section}
use Rattle.wtp_frames.specs.Interim.{after_interim}
use Rattle.wtp_frames.specs.Reading.{by_end}
use Rattle.wtp_frames.specs.Start.{message_reader, control_reader}
use Rattle.wtp_connection.specs.declared.stream.Purpose.{Purpose}
use Rattle.wtp_connection.specs.declared.stream.Purpose.TheVariants as «for»
use Rattle.wtp_connection.specs.declared.stream.Stream.{Stream}
use Rattle.wtp_connection.specs.declared.stream.Stream.TheVariants.{Uni, Bi, Frames, Joining, Waiting, Session, Encoder, Decoder, Ignored, Incomplete, Over}
use Rattle.wtp_connection.specs.declared.fault.Fault.{Fault}
use Rattle.wtp_connection.specs.declared.fault.Fault.TheVariants as fault
use Rattle.wtp_connection.specs.declared.settings.PeerSettings.{PeerSettings}
use Rattle.wtp_connection.specs.declared.instructions.DecoderPlace.{DecoderPlace}
use Rattle.wtp_connection.specs.declared.instructions.DecoderPlace.TheVariants.{Between}
use Rattle.wtp_connection.specs.declared.connection.Connection.{Connection}
use Rattle.wtp_connection.specs.declared.connection.Known.{Known}
use Rattle.wtp_connection.specs.declared.connection.Known.TheVariants as known
use Rattle.wtp_connection.specs.Fault.{scope_of}
use Rattle.wtp_connection.specs.Settings.{values_of, with_defaults, settings_in}
use Rattle.wtp_connection.specs.Resumption.{accepted_if}
use Rattle.wtp_connection.specs.Instructions.{sets_zero, after_bytes}
use Rattle.wtp_connection.specs.Opening.{stream_of, uni_at, bi_at, is_control, is_critical, is_for_critical, has_no_headers, over_from, over_by, is_forbidden, end_unopened}
use Rattle.wtp_connection.specs.declared.requests.Begun.{Begun}
use Rattle.wtp_connection.specs.declared.requests.Beginning.{Beginning}
use Rattle.wtp_connection.specs.declared.requests.Beginning.TheVariants as beginning
use Rattle.wtp_connection.specs.Requests.{beginning_at, none_begun, with_request}

-- a connection before its first byte: each setting of the peer has its default (RFC 9114, section
-- 7.2.4.2)
abbrev pub connection_of : Endpoint → Connection
connection_of e = record {
  endpoint = e;
  control = false;
  encoder = false;
  decoder = false;
  waiting = 0;
  peer = with_defaults (values_of []);
  resumed = false;
  begun = none_begun;
  over = false;
}

-- A connection of a client that resumes a session and sends 0-RTT data: until SETTINGS come the settings
-- of the server are those of that session. A client's settings are not remembered (RFC 9114, section
-- 7.2.4.2).
abbrev pub resuming_at : Side → Endpoint → PeerSettings → Connection
resuming_at Client e v = record (connection_of e) { peer = v; resumed = true }
resuming_at Server e v = connection_of e

abbrev pub resuming_of : Endpoint → PeerSettings → Connection
resuming_of e v = resuming_at e.side e v

-- the server did not accept 0-RTT: what is remembered counts no more
abbrev pub without_resumption : Connection → Connection
without_resumption c =
    if c.resumed
    then record c { peer = with_defaults (values_of []); resumed = false }
    else c

-- the peer's control stream was opened
abbrev pub with_control : Connection → Connection
with_control c = record c { control = true }

-- SETTINGS came on it
abbrev pub configured : Connection → PeerSettings → Connection
configured c v = record c { peer = v; resumed = false }

-- What the payload of SETTINGS is, or its error. If a session is resumed, it must keep what is
-- remembered.
abbrev pub received_settings : Connection → List ℕ → Result PeerSettings Fault
received_settings c payload = accepted_if c.resumed c.peer (settings_in payload)

-- ---- the streams that the peer opens

-- a server remembers which requests have begun
abbrev pub with_stream : Side → Connection → ℕ → Connection
with_stream Client c id = c
with_stream Server c id =
    if id % 4 == 0 then record c { begun = with_request c.begun (id / 4) } else c

abbrev pub accepts : Connection → ℕ → Connection × Stream
accepts c id = (with_stream c.endpoint.side c id, stream_of id)

-- a server after these streams of the client were opened, of which the last one is the first of the
-- list
abbrev pub accepted_all : Endpoint → List ℕ → Connection
accepted_all e [] = connection_of e
accepted_all e (id ∷ ids) = (accepts (accepted_all e ids) id).0

-- ---- what the connection makes of a stream

-- a stream that may be opened once, where this tells whether it was
abbrev pub opens_once : Bool → Connection → Stream → Result (Connection × Stream) Fault
opens_once true c s = Err (fault.Stream stream.StreamCreation)
opens_once false c s = Ok (c, s)

-- a server gets no push; a client allowed none (RFC 9114, sections 4.6 and 6.2.2)
abbrev pub push_fault : Side → Fault
push_fault Client = (fault.Stream stream.Id)
push_fault Server = (fault.Stream stream.StreamCreation)

abbrev pub opens : Connection → Purpose → Result (Connection × Stream) Fault
opens c «for».Control =
    opens_once c.control (with_control c) (Frames (control_reader c.endpoint) false)
opens c «for».Encoder = opens_once c.encoder (record c { encoder = true }) Encoder
opens c «for».Decoder =
    opens_once c.decoder (record c { decoder = true }) (Decoder Between)
opens c «for».Push = Err (push_fault c.endpoint.side)
opens c («for».Session s) = Ok (c, Joining s)
opens c «for».InvalidSession = Err (fault.Stream stream.Id)
opens c «for».Message = Ok (c, Frames (message_reader c.endpoint) false)
opens c «for».Foreign = Err (fault.Stream stream.StreamCreation)
opens c «for».Ignored = Ok (c, Ignored)

-- the connection and a stream, if it was opened
abbrev pub opening_result : Result Stream Fault → Connection → Result (Connection × Stream) Fault
opening_result (Ok s) c = Ok (c, s)
opening_result (Err f) c = Err f

-- ---- errors

-- the connection after an error of this scope
abbrev pub closed_in : Connection → ErrorScope → Connection
closed_in c scope.Stream = c
closed_in c other = record c { over = true }

abbrev pub closed_by : Connection → Fault → Connection
closed_by c f = closed_in c (scope_of f)

-- ---- the run

-- what is found on a stream: what it is for; SETTINGS, with what they define and their payload;
-- another item; an error; or the end
pub data Seen : Type 0 where
  Opened : Purpose → Seen
  Configured : PeerSettings → List ℕ → Seen
  Gave : Item → Seen
  Broke : Fault → Seen
  Ended : Seen

-- what is found; the connection and the stream after it; and the bytes that are left
pub record StreamRun : Type 0 where
  pub seen : List Seen
  pub connection : Connection
  pub stream : Stream
  pub left : List ℕ

abbrev pub rests : Connection → Stream → List ℕ → StreamRun
rests c s bytes = record { seen = []; connection = c; stream = s; left = bytes }

abbrev pub followed : List Seen → StreamRun → StreamRun
followed seen x = record {
  seen = seen ++ x.seen;
  connection = x.connection;
  stream = x.stream;
  left = x.left;
}

-- all bytes are consumed
abbrev pub all_given : Connection → Stream → List Seen → StreamRun
all_given c s seen = record { seen = seen; connection = c; stream = s; left = [] }

-- an error of the stream, which is given once
abbrev pub breaks : Connection → Fault → StreamRun
breaks c f = all_given (closed_by c f) Over (Broke f ∷ [])

-- SETTINGS, by what they define: the connection has it from then on
abbrev pub by_settings : Connection → List ℕ → (Connection → StreamRun) → Result PeerSettings Fault → StreamRun
by_settings c payload more (Ok v) =
    followed (Configured v payload ∷ []) (more (configured c v))
by_settings c payload more (Err f) = breaks c f

-- an item, and what follows it
abbrev pub by_item : Connection → (Connection → StreamRun) → Item → StreamRun
by_item c more (Whole kind.Settings payload) =
    by_settings c payload more (received_settings c payload)
by_item c more (Broken f) =
    followed (Broke (fault.Stream f) ∷ []) (more (closed_by c (fault.Stream f)))
by_item c more other = followed (Gave other ∷ []) (more c)

abbrev pub of_items : Connection → (Connection → StreamRun) → List Item → StreamRun
of_items c more [] = more c
of_items c more (i ∷ items) = by_item c (λ d. of_items d more items) i

-- whether there is a frame that is no DATA
abbrev pub has_frames : List Item → Bool
has_frames [] = false
has_frames (Whole k payload ∷ items) = true
has_frames (TooLarge n ∷ items) = true
has_frames (other ∷ items) = has_frames items

-- the items of a stream of frames that had such a frame before, or not
abbrev pub of_frames : Connection → Bool → Run → StreamRun
of_frames c given x =
    of_items c (λ d. rests d (Frames x.reader (has_frames x.items || given)) x.left) x.items

abbrev pub bytes_seen : List ℕ → List Seen
bytes_seen bytes = map Gave (map Byte bytes)

-- the encoder stream of QPACK, by whether it does nothing but set the capacity to 0
abbrev pub by_capacity : Connection → Bool → StreamRun
by_capacity c true = all_given c Encoder []
by_capacity c false = breaks c fault.EncoderStream

-- the decoder stream of QPACK, by where its bytes lead
abbrev pub by_place : Connection → Option DecoderPlace → StreamRun
by_place c None = breaks c fault.DecoderStream
by_place c (Some place) = all_given c (Decoder place) []

-- a stream whose purpose is known
abbrev pub run_open : Connection → Stream → List ℕ → StreamRun
run_open c (Frames r given) bytes = of_frames c given (run r bytes)
run_open c (Session s) bytes = all_given c (Session s) (bytes_seen bytes)
run_open c (Joining s) bytes = rests c (Joining s) bytes
run_open c (Waiting s) bytes = rests c (Waiting s) bytes
run_open c Encoder bytes = by_capacity c (list_all sets_zero bytes)
run_open c (Decoder place) bytes = by_place c (after_bytes place bytes)
run_open c other bytes = all_given c other []

abbrev pub by_purpose : Connection → Purpose → List ℕ → Result (Connection × Stream) Fault → StreamRun
by_purpose c p rest (Ok x) = followed (Opened p ∷ []) (run_open x.0 x.1 rest)
by_purpose c p rest (Err f) = breaks c f

abbrev pub by_opening : Connection → Stream → List ℕ → Option (Purpose × List ℕ) → StreamRun
by_opening c s bytes None = rests c s bytes
by_opening c s bytes (Some o) = by_purpose c o.0 o.1 (opens c o.0)

abbrev pub run_intact : Connection → Stream → List ℕ → StreamRun
run_intact c Uni bytes = by_opening c Uni bytes (uni_at c.endpoint bytes)
run_intact c Bi bytes = by_opening c Bi bytes (bi_at c.endpoint bytes)
run_intact c other bytes = run_open c other bytes

-- The run of a stream's bytes under this state of the connection. After an error of the connection
-- nothing is found any more.
abbrev pub run_stream : Connection → Stream → List ℕ → StreamRun
run_stream c s bytes = if c.over then all_given c s [] else run_intact c s bytes

-- ---- the end of a stream

-- what it means that a stream ends, with these bytes left
abbrev pub end_of : Connection → Stream → List ℕ → Result (Unit {0}) StreamFault
end_of c Bi left = end_unopened c.endpoint left
end_of c (Frames r given) left =
    by_end r.endpoint.side r.place (r.remaining + length left)
end_of c Encoder left = Err stream.ClosedCriticalStream
end_of c (Decoder place) left = Err stream.ClosedCriticalStream
end_of c other left = Ok tt

abbrev pub by_fault : Connection → Result (Unit {0}) StreamFault → StreamRun
by_fault c (Ok u) = all_given c Over (Ended ∷ [])
by_fault c (Err f) =
    all_given (closed_by c (fault.Stream f)) (over_by f) (Broke (fault.Stream f) ∷ [])

-- the end of a stream that waits for its session waits too; one that is over has no other
abbrev pub ending : Connection → Stream → List ℕ → StreamRun
ending c (Joining s) left = rests c (Joining s) left
ending c (Waiting s) left = rests c (Waiting s) left
ending c Incomplete left = all_given c Incomplete []
ending c Over left = all_given c Over []
ending c other left = by_fault c (end_of c other left)

-- what follows the bytes of a run, where the stream ends
abbrev pub ended : StreamRun → StreamRun
ended x =
    if x.connection.over
    then x
    else followed x.seen (ending x.connection x.stream x.left)

-- ---- sessions

-- at most this many streams wait for sessions that are to come
abbrev pub most_waiting : ℕ
most_waiting = 16

-- a session without a stream is over or to come, by whether its request began
abbrev pub over_if : Bool → Known
over_if true = known.Over
over_if false = known.Coming

-- what is known of it
abbrev pub known_by : Beginning → Known
known_by beginning.Begun = known.Over
known_by beginning.NotBegun = known.Coming
known_by beginning.Lost = known.Refused

abbrev pub known_at : Side → Begun → ℕ → Known
known_at Client b s = known.Impossible
known_at Server b s =
    if s % 4 == 0 then known_by (beginning_at b (s / 4)) else known.Impossible

abbrev pub known_alone : Connection → ℕ → Known
known_alone c s = known_at c.endpoint.side c.begun s

-- what a stream with the ID of a session says of it: a request that goes on may be that of the
-- session; one that was over before its HEADERS was none that could be answered; a stream of a session
-- can never be one
abbrev pub known_by_stream : Stream → Known
known_by_stream Bi = known.Coming
known_by_stream (Frames r given) = if is_control r.place then known.Impossible else known.Coming
known_by_stream Incomplete = known.Refused
known_by_stream Over = known.Over
known_by_stream other = known.Impossible

abbrev pub known_of : Connection → ℕ → Option Stream → Known
known_of c s None = known_alone c s
known_of c s (Some its) = if s % 4 == 0 then known_by_stream its else known.Impossible

-- what the connection and a stream are then, and the error
abbrev pub Joined : Type 0
Joined = Connection × Stream × Option Fault

abbrev pub refuses : Connection → StreamFault → Joined
refuses c f = (closed_by c (fault.Stream f), Over, Some (fault.Stream f))

-- the request with the session's ID asked for none: a client made it itself, so the ID is no
-- session's
abbrev pub other_fault : Side → StreamFault
other_fault Client = stream.Id
other_fault Server = stream.BufferedStreamRejected

-- a stream whose session is not to come
abbrev pub settles : Connection → ℕ → Known → Joined
settles c s known.Coming = (c, Waiting s, None)
settles c s known.Open = (c, Session s, None)
settles c s known.Over = refuses c stream.SessionGone
settles c s known.Refused = refuses c stream.BufferedStreamRejected
settles c s known.Other = refuses c (other_fault c.endpoint.side)
settles c s known.Impossible = refuses c stream.Id

abbrev pub waits : Connection → ℕ → Joined
waits c s =
    if nat_lt c.waiting most_waiting
    then (record c { waiting = c.waiting + 1 }, Waiting s, None)
    else refuses c stream.BufferedStreamRejected

abbrev pub freed : Connection → Connection
freed c = record c { waiting = c.waiting - 1 }

abbrev pub joins_open : Connection → Stream → Known → Joined
joins_open c (Joining s) known.Coming = waits c s
joins_open c (Joining s) k = settles c s k
joins_open c (Waiting s) known.Coming = (c, Waiting s, None)
joins_open c (Waiting s) k = settles (freed c) s k
joins_open c (Session s) known.Over = refuses c stream.SessionGone
joins_open c other k = (c, other, None)

-- the connection is told what is known of the session of a stream; nothing changes after an error of
-- the connection
abbrev pub joins : Connection → Stream → Known → Joined
joins c s k = if c.over then (c, s, None) else joins_open c s k

-- ---- interim responses (RFC 9114, section 4.1)

-- what the reader of a stream is then, and its error
abbrev pub by_interim : Connection → Bool → Reader × Option StreamFault → Joined
by_interim c given (r, None) = (c, Frames r given, None)
by_interim c given (r, Some f) = refuses c f

abbrev pub tells_open : Connection → Stream → Joined
tells_open c (Frames r given) = by_interim c given (after_interim r)
tells_open c other = (c, other, None)

-- the HEADERS that a stream gave last are those of an interim response; nothing changes after an
-- error of the connection
abbrev pub tells_interim : Connection → Stream → Joined
tells_interim c s = if c.over then (c, s, None) else tells_open c s

-- a stream gives the section of an interim response, whatever follows, and this is what comes of it
-- once the caller says what it is
abbrev pub FindsInterim : Connection → Stream → Interim → Joined → Type 0
FindsInterim c s i end =
    (mid : Stream)
    × ((more : List ℕ) → run_stream c s (interim_bytes i ++ more)
    ≡ followed (Gave (Whole kind.Headers (interim_section i)) ∷ []) (run_stream c mid more))
    × (tells_interim c mid ≡ end)

-- ---- a stream that is reset, or that is not read to its end

-- the connection without this stream: one that waited gives its place back
abbrev pub without : Connection → Stream → Connection
without c (Waiting s) = freed c
without c other = c

-- a server resets its half of a request of which no HEADERS came with H3_REQUEST_INCOMPLETE (RFC
-- 9114, section 4.1.1)
abbrev pub reset_answer_at : Side → Bool → Option Fault
reset_answer_at Client is = None
reset_answer_at Server is = if is then Some (fault.Stream stream.RequestIncomplete) else None

abbrev pub reset_answer : Connection → Stream → Option Fault
reset_answer c s = reset_answer_at c.endpoint.side (has_no_headers s && not c.over)

-- The peer reset a stream: an error if the connection goes on and it is a critical one, or one that the
-- peer may not open (RFC 9114, sections 6.1 and 6.2.1).
abbrev pub resets : Connection → Stream → Joined
resets c s =
    if is_critical s && not c.over
    then refuses c stream.ClosedCriticalStream
    else (if is_forbidden c.endpoint s && not c.over
    then refuses c stream.StreamCreation
    else (without c s, over_from s, reset_answer c s))

-- the peer asks to stop an own stream for this purpose: an error if it is a critical one and the
-- connection goes on
abbrev pub stops : Connection → Purpose → Connection × Option Fault
stops c p =
    if is_for_critical p && not c.over
    then (
      closed_by c (fault.Stream stream.ClosedCriticalStream),
      Some (fault.Stream stream.ClosedCriticalStream),
    )
    else (c, None)

-- more bytes of a stream are left over than the application holds: one that is to be joined with its
-- session is rejected (WebTransport over HTTP/3, "Buffering Incoming Streams and Datagrams"); of any
-- other one it is an excessive load (RFC 9114, section 10.5)
abbrev pub overflows_open : Connection → Stream → Joined
overflows_open c (Joining s) = refuses c stream.BufferedStreamRejected
overflows_open c (Waiting s) = refuses (freed c) stream.BufferedStreamRejected
overflows_open c Incomplete = (c, Incomplete, None)
overflows_open c Over = (c, Over, None)
overflows_open c other = refuses c stream.ExcessiveLoad

abbrev pub overflows : Connection → Stream → Joined
overflows c s = if c.over then (c, s, None) else overflows_open c s

-- the application reads a stream no further; a critical one is always read
abbrev pub abandons : Connection → Stream → Connection × Stream
abandons c s = if is_critical s then (c, s) else (without c s, over_from s)
