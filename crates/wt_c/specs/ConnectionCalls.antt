-- What the calls of a connection change in the structs and arrays of the caller.
use Rattle.std.specs.Prelude.{◌≡◌, ℕ, ◌+◌, ◌==◌, nat_lt, ◌&&◌, ◌||◌, ◌⊎◌, if◌then◌else◌, Bool, List, [], ◌∷◌, length, drop, Option, Some, None, Ok, Err}
use Rattle.wtp_connection.specs.declared.connection.Known.{Known}
use Rattle.wtp_connection.specs.declared.connection.Known.TheVariants as known
use Rattle.wtp_connection.specs.declared.connection.datagrams.DatagramFor.{DatagramFor}
use Rattle.wtp_connection.specs.declared.connection.datagrams.DatagramFor.TheVariants as use_of
use Rattle.wtp_connection.specs.declared.stream.Purpose.{Purpose}
use Rattle.wtp_connection.specs.declared.stream.Purpose.TheVariants as purpose
use Rattle.wtp_connection.specs.declared.stream.Stream.{Stream as Frames}
use Rattle.wtp_connection.specs.declared.stream.Stream.TheVariants as frames
use Rattle.wtp_connection.specs.declared.stream.words.StreamWords.{StreamWords as FramesWords}
use Rattle.wtp_connection.specs.Streams.{known_alone}
use Rattle.wtp_messages.specs.declared.response.Asked.{Asked}
use Rattle.wtp_messages.specs.declared.response.Asked.TheVariants as asked
use Rattle.wtp_webtransport.specs.Capsules.{Place, Head, Value, Skipping}
use Rattle.wtp_webtransport.specs.declared.capsules.CapsuleType.{CapsuleType}
use Rattle.wtp_webtransport.specs.declared.capsules.CapsuleType.TheVariants as capsule
use Rattle.wtp_webtransport.specs.declared.capsules.words.CapsuleWords.{CapsuleWords}
use Rattle.wtp_webtransport.specs.declared.connection.Connection.{Connection}
use Rattle.wtp_webtransport.specs.declared.stream.Stream.{Stream}
use Rattle.wtp_webtransport.specs.declared.stream.words.StreamWords.{StreamWords}
use Rattle.wtp_webtransport.specs.Events.{Told, SessionClosed, Datagram}
use Rattle.wtp_webtransport.specs.Fault.{code_of}
use Rattle.wtp_webtransport.specs.Joining.{Taken}
use Rattle.wtp_webtransport.specs.Places.{EndsAt, IsPlaced}
use Rattle.wtp_webtransport.specs.Receiving.{Outcome}
use Rattle.wtp_webtransport.specs.Sessions.{known_of}
use Rattle.wtp_webtransport.specs.Streams.{accepted, request_stream}
use Rattle.wtp_webtransport.specs.Tables.{Call}
use Rattle.wtp_webtransport.specs.Words.{held_in, IsSound}
use Rattle.wt_c.specs.Connections.{with_connection, HasConnection, stream_with, HasStream}
use Rattle.wt_c.specs.ConnectionEvents.{plain, with_bytes, c_event, fields_of, told_within, whole_event}
use Rattle.wt_c.specs.Fields.{HoldLines}
use Rattle.wt_c.specs.Output.{WritesPrefix}
use Rattle.wt_c.specs.Tables.{HasTable}
use Rattle.wt_c.specs.declared.connections.WtConnection.{WtConnection}
use Rattle.wt_c.specs.declared.connections.events.WtEvent.{WtEvent}
use Rattle.wt_c.specs.declared.connections.streams.WtStream.{WtStream}
use Rattle.wt_c.specs.declared.fields.WtField.{WtField}

-- ---- a datagram of a capsule that is longer than the limit is skipped, also where it is cut

abbrev pub value_within : ℕ → CapsuleType → List ℕ → ℕ → Place
value_within max capsule.Datagram v missing =
    if nat_lt 0 missing && nat_lt max (length v + missing)
    then Skipping missing
    else Value capsule.Datagram v missing
value_within max k v missing = Value k v missing

abbrev pub place_within : ℕ → Option Place → Option Place
place_within max (Some (Value k v missing)) = Some (value_within max k v missing)
place_within max other = other

abbrev pub stream_within : ℕ → Stream → Stream
stream_within max s = record s { capsules = place_within max s.capsules }

-- the same of words
abbrev pub limited : ℕ → CapsuleWords → CapsuleWords
limited max w =
    if (w.kind == 3) && (nat_lt 0 w.missing && nat_lt max (w.held + w.missing))
    then record w { kind = 2; held = 0 }
    else w

abbrev pub limited_words : ℕ → StreamWords → StreamWords
limited_words max w = record w { capsules = limited max w.capsules }

-- ---- wt_receive

-- The fields of an event, or its bytes that are not in the input, in the arrays of the caller:
-- there are n fields, and k bytes of their texts.
abbrev pub Puts : Told → List WtField → List ℕ → List WtField → List ℕ → ℕ → ℕ → Type 0
Puts (SessionClosed close) fields out fields_after out_after n k =
    (fields_after ≡ fields) × WritesPrefix close.1 out out_after k
Puts (Datagram payload) fields out fields_after out_after n k =
    (fields_after ≡ fields) × WritesPrefix payload out out_after k
Puts told fields out fields_after out_after n k =
    HoldLines fields out fields_after out_after n k (fields_of told)

-- What the core gives for the connection and the stream of these structs, and the dynamic table in
-- these bytes: with none, the connection has no table, and the call is one of Receives.
pub record Gives (connection : WtConnection) (stream : WtStream) (held table bytes : List ℕ)
    (fin : Bool) (o : Outcome) : Type 0 where
  pub c : Connection
  pub s : Stream
  pub connection_is : HasConnection c connection
  pub table_is : HasTable c table
  pub stream_is : HasStream s stream held
  pub receives : Call connection.max_fields c s bytes fin o

-- its event
abbrev pub event_from : ℕ → Outcome → WtEvent
event_from max o =
    whole_event (told_within max o.1) o.0 (length (held_in (place_within max o.3.capsules)))

-- the structs and the arrays after it
pub record Leaves (o : Outcome) (connection after : WtConnection) (stream : WtStream)
    (held held_after bytes : List ℕ) (fields fields_after : List WtField) (out out_after : List ℕ)
    (event : WtEvent) : Type 0 where
  pub connection_is : with_connection connection o.2 ≡ after
  pub stream_is : HasStream (stream_within connection.max_datagram o.3) stream held_after
  pub sound : IsSound (place_within connection.max_datagram o.3.capsules)
  pub held_is : drop event.kept held_after ≡ drop event.kept held
  pub placed : IsPlaced o.1 o.0 bytes
  pub beside : Puts (told_within connection.max_datagram o.1) fields out fields_after out_after
      event.count event.used

-- ---- calls that need no bytes of a stream

-- the stream, with the bytes of a capsule that is cut forgotten
abbrev pub blank_place : Option Place → Option Place
blank_place None = None
blank_place (Some p) = Some (Skipping 1)

abbrev pub blank : Stream → Stream
blank s = record s { capsules = blank_place s.capsules }

-- no stream has this struct, whatever bytes are held
abbrev pub IsWithoutStream : WtStream → Type 0
IsWithoutStream w = (s : Stream) → IsSound s.capsules → ¬ (stream_with s ≡ w)

-- each stream of the struct is such a one, whatever bytes are held; there is one, or its capsule is
-- cut as none can be
abbrev pub EachStream : WtStream → (Stream → Type 0) → Type 0
EachStream w Is = (s : Stream) → IsSound s.capsules → stream_with s ≡ w → Is s

-- the outcome of a change
abbrev pub Outcome3 : Type 0
Outcome3 = Told × Connection × Stream

abbrev pub change_event : Told → WtStream → WtEvent
change_event told after = record (c_event told 0) { kept = after.words.capsules.held }

-- the structs after it, and its event; the bytes that are held are the same, if there are any after
-- it
pub record IsChanged (o : Outcome3) (s : Stream) (old after : WtConnection)
    (stream stream_after : WtStream) (event : WtEvent) : Type 0 where
  pub event_is : event ≡ change_event o.0 stream_after
  pub connection_is : with_connection old o.1 ≡ after
  pub stream_is : stream_with o.2 ≡ stream_after
  pub held_are : (held_in o.2.capsules ≡ held_in s.capsules) ⊎ (held_in o.2.capsules ≡ [])

pub record Changes (change : Connection → Stream → Outcome3) (old after : WtConnection)
    (stream stream_after : WtStream) (event : WtEvent) : Type 0 where
  pub c : Connection
  pub connection_is : HasConnection c old
  pub each : EachStream stream (λ s. IsChanged (change c s) s old after stream stream_after event)

-- ---- what is known of a session

abbrev pub known_number : Known → ℕ
known_number known.Coming = 0
known_number known.Open = 1
known_number known.Over = 2
known_number known.Refused = 3
known_number known.Other = 4
known_number known.Impossible = 5

abbrev pub known_at : ℕ → Option Known
known_at n =
    if n == 0 then Some known.Coming
    else (if n == 1 then Some known.Open
    else (if n == 2 then Some known.Over
    else (if n == 3 then Some known.Refused
    else (if n == 4 then Some known.Other
    else (if n == 5 then Some known.Impossible
    else None)))))

-- of a session whose ID is that of a stream, or of one without a stream
abbrev pub KnownBy : List WtStream → ℕ → Connection → ℕ → Type 0
KnownBy [] id c n = n ≡ known_number (known_alone c.streams id)
KnownBy (w ∷ []) id c n = EachStream w (λ s. n ≡ known_number (known_of c s))
KnownBy (w ∷ v ∷ more) id c n = ⊥

-- there is one stream, and its struct is that of none
abbrev pub IsOneWithoutStream : List WtStream → Type 0
IsOneWithoutStream (w ∷ []) = IsWithoutStream w
IsOneWithoutStream other = ⊥

-- the session that a stream belongs to, or waits for
abbrev pub member_of : Frames → Option ℕ
member_of (frames.Joining id) = Some id
member_of (frames.Waiting id) = Some id
member_of (frames.Session id) = Some id
member_of other = None

-- the same by the words of the stream
abbrev pub member_at : FramesWords → Option ℕ
member_at w =
    if (w.kind == 3) || ((w.kind == 4) || (w.kind == 5)) then Some w.number else None

-- whether there is one, and its ID
abbrev pub member_numbers : Option ℕ → ℕ × ℕ
member_numbers None = (0, 0)
member_numbers (Some id) = (1, id)

-- the purpose of an own stream
abbrev pub purpose_at : ℕ → Option Purpose
purpose_at n =
    if n == 0 then Some purpose.Control
    else (if n == 2 then Some purpose.Encoder
    else (if n == 3 then Some purpose.Decoder
    else (if n == 4 then Some (purpose.Session 0)
    else None)))

-- ---- datagrams

-- a datagram of a session, whose payload is the end of so many bytes; none; or an error
abbrev pub datagram_event : Taken → ℕ → WtEvent
datagram_event (Ok (Some d)) end = record (with_bytes 14 1 d.1 end) { number = d.0; consumed = end }
datagram_event (Ok None) end = record (plain 16 0 0) { consumed = end }
datagram_event (Err f) end = record (plain 22 0 (code_of f)) { consumed = end }

-- the payload of a datagram is the end of its bytes
abbrev pub EndsWith : List ℕ → Taken → Type 0
EndsWith bytes (Ok (Some d)) = EndsAt (length bytes) d.1 bytes
EndsWith bytes other = Unit {0}

abbrev pub use_number : DatagramFor → ℕ
use_number use_of.Deliver = 0
use_number use_of.Early = 1
use_number use_of.Discard = 2
use_number use_of.EndStream = 3

-- ---- the beginning of a stream

-- a stream of the peer
pub record Accepts (old : WtConnection) (id : ℕ) (new : WtConnection) (stream : WtStream)
    : Type 0 where
  pub c : Connection
  pub connection_is : HasConnection c old
  pub connection_after : with_connection old (accepted c id).0 ≡ new
  pub stream_is : stream_with (accepted c id).1 ≡ stream

-- the response to a request of this connection
pub record Requests (connection : WtConnection) (asked : Asked) (stream : WtStream) : Type 0 where
  pub c : Connection
  pub connection_is : HasConnection c connection
  pub stream_is : stream_with (request_stream c.endpoint asked) ≡ stream

-- what a request asks for, by its number
abbrev pub asked_at : ℕ → Option Asked
asked_at n =
    if n == 0 then Some asked.Other
    else (if n == 1 then Some asked.Head
    else (if n == 2 then Some asked.Connect
    else (if n == 3 then Some asked.Session
    else None)))
