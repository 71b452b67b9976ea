-- How far the receiving end of a message's stream is, beside what the other end sent (RFC 9114, section 4.1).
use Rattle.std.specs.Prelude.{◌≡◌, ℕ, ◌+◌, ◌-◌, ◌<◌, ◌≤◌, Bool, true, false, List, ◌++◌, length, Option, Some, drop}
use Rattle.wtp_qpack.specs.Field.{Field, AreOctets}
use Rattle.wtp_qpack.specs.FieldSection.{shortest_section}
use Rattle.wtp_fields.specs.FieldList.{list_size}
use Rattle.wtp_frames.specs.declared.endpoint.Endpoint.{Endpoint}
use Rattle.wtp_frames.specs.declared.reader.Place.{Place as Reading}
use Rattle.wtp_frames.specs.declared.reader.Place.TheVariants as reading
use Rattle.wtp_frames.specs.Start.{awaiting, message_reader}
use Rattle.wtp_connection.specs.declared.stream.Stream.TheVariants as frames
use Rattle.wtp_messages.specs.declared.message.Message.{Message}
use Rattle.wtp_messages.specs.declared.message.Role.{Role}
use Rattle.wtp_messages.specs.declared.message.Role.TheVariants as role
use Rattle.wtp_messages.specs.declared.response.Asked.{Asked}
use Rattle.wtp_messages.specs.declared.response.Asked.TheVariants as asked
use Rattle.wtp_messages.specs.Content.{fits}
use Rattle.wtp_sending.specs.declared.message.Place.{Place}
use Rattle.wtp_sending.specs.declared.message.Place.TheVariants as sent
use Rattle.wtp_sending.specs.declared.message.Sending.{Sending}
use Rattle.wtp_sending.specs.Message.{data_head}
use Rattle.wtp_sending.specs.Sent.{SentBytes, Leads, reads_data}
use Rattle.wtp_webtransport.specs.declared.connection.Connection.{Connection}
use Rattle.wtp_webtransport.specs.declared.stream.Stream.{Stream}
use Rattle.wtp_webtransport.specs.declared.stream.Part.TheVariants as part
use Rattle.wtp_webtransport.specs.declared.stream.Unread.TheVariants as unread
use Rattle.wtp_webtransport.specs.Calls.{HasMemory}
use Rattle.wtp_webtransport.specs.Capsules.{between}
use Rattle.wtp_webtransport.specs.declared.event.HeadersKind.TheVariants as headers
use Rattle.wtp_webtransport.specs.Events.{Told, Headers, SessionReady, Rejected, Data, NoMemory, More}
use Rattle.wtp_webtransport.specs.Receiving.{Outcome, Receives, counted}
use Rattle.wtp_webtransport.specs.Streams.{stream_of, with_frames, with_head}

-- ---- the receiver of a message

-- The message of the receiver, once so many bytes of content come that were announced, is that of the sender.
abbrev pub IsBehind : Message → ℕ → Message → Type 0
IsBehind m owed new = (fits m.content.left owed ≡ true) × (counted m owed ≡ new)

-- before the head of the message, after so many interim responses
pub record IsBeforeHead (e : Endpoint) (k : ℕ) (m : Message) (t : Stream) : Type 0 where
  pub given : Bool
  pub frames : t.frames ≡ frames.Frames (awaiting e k) given
  pub part : t.part ≡ part.Head m

-- in its content, or after its trailers; so many bytes of a DATA frame are still to come
pub record IsInContent (e : Endpoint) (place : Reading) (owed : ℕ) (m : Message) (t : Stream) : Type 0 where
  pub interims : ℕ
  pub streamed : Bool
  pub given : Bool
  pub message : Message
  pub frames : t.frames ≡ frames.Frames (reads_data e interims place streamed owed) given
  pub part : t.part ≡ part.Body message
  pub behind : IsBehind message owed m
  pub streaming : 0 < owed → streamed ≡ true

-- a CONNECT request that waits for its answer, which asks for a session or does not
pub record IsAsking (e : Endpoint) (session : Bool) (m : Message) (t : Stream) : Type 0 where
  pub interims : ℕ
  pub streamed : Bool
  pub given : Bool
  pub frames : t.frames ≡ frames.Frames (reads_data e interims reading.Body streamed 0) given
  pub part : t.part ≡ part.Unanswered session m
  pub capsules : session ≡ true → t.capsules ≡ Some between

-- in a tunnel
pub record IsTunnel (e : Endpoint) (owed : ℕ) (t : Stream) : Type 0 where
  pub interims : ℕ
  pub streamed : Bool
  pub given : Bool
  pub frames : t.frames ≡ frames.Frames (reads_data e interims reading.Tunnel streamed owed) given
  pub part : t.part ≡ part.Tunnel
  pub streaming : 0 < owed → streamed ≡ true

-- the own stream of an open session, between two capsules
pub record IsSession (e : Endpoint) (t : Stream) : Type 0 where
  pub interims : ℕ
  pub streamed : Bool
  pub given : Bool
  pub frames : t.frames ≡ frames.Frames (reads_data e interims reading.Tunnel streamed 0) given
  pub part : t.part ≡ part.Session 0
  pub capsules : t.capsules ≡ Some between

abbrev pub AgreesAt : Endpoint → Place → ℕ → Message → Stream → Type 0
AgreesAt e (sent.Head k) owed m t = IsBeforeHead e k m t × (owed ≡ 0)
AgreesAt e sent.Content owed m t = IsInContent e reading.Body owed m t
AgreesAt e (sent.Connecting session) owed m t = IsAsking e session m t × (owed ≡ 0)
AgreesAt e sent.Tunnel owed m t = IsTunnel e owed t
AgreesAt e sent.Session owed m t = IsSession e t × (owed ≡ 0)
AgreesAt e sent.Trailers owed m t = IsInContent e reading.AfterTrailers owed m t × (owed ≡ 0)
AgreesAt e sent.Ended owed m t = Unit {0}

-- a client knows what its request asked for
abbrev pub IsFor : Role → Option Asked → Type 0
IsFor (role.Request extended) for = Unit {0}
IsFor (role.Response a) for = for ≡ Some a

-- The receiver read all that the sender sent: it is as far as that.
pub record Agrees (e : Endpoint) (s : Sending) (t : Stream) : Type 0 where
  pub own : s.message.role ≡ s.role
  pub read : t.unread ≡ unread.Nothing
  pub asked : IsFor s.role t.asked
  pub at : AgreesAt e s.place s.owed s.message t

-- ---- field sections

-- the receiver accepts sections of this size: its limits are e.max_section for the encoded one, and `limit` for
-- the decoded one
pub record IsWithin (e : Endpoint) (limit : ℕ) (fields : List Field) : Type 0 where
  pub octets : AreOctets fields
  pub encoded : length (shortest_section fields) ≤ e.max_section
  pub decoded : list_size fields ≤ limit

-- The call returned NoMemory after the first bytes of what was sent. With the rest of them the next call returns
-- the event, or NoMemory again; before all of them came it needs more.
pub record IsUnread (limit : ℕ) (c : Connection) (sent : List ℕ) (told : Told) (d : Connection)
    (t : Stream) (o : Outcome) : Type 0 where
  pub event : o.1 ≡ NoMemory
  pub connection : o.2 ≡ c
  pub within : o.0 ≤ length sent
  pub again :
      (more : List ℕ) (fin : Bool) (p : Outcome)
      → Receives limit c o.3 (drop o.0 sent ++ more) fin p → HasMemory p
      → p ≡ (length sent - o.0, told, d, t)
  pub still :
      (more : List ℕ) (fin : Bool) (p : Outcome)
      → Receives limit c o.3 (drop o.0 sent ++ more) fin p → (HasMemory p → ⊥)
      → p ≡ (0, NoMemory, c, o.3)
  pub part :
      (a b : List ℕ) (fin : Bool) (p : Outcome)
      → a ++ b ≡ drop o.0 sent → 0 < length b
      → Receives limit c o.3 a fin p → p ≡ (0, More, c, o.3)

-- As IsReadAs, for HEADERS, which are decoded into memory; where that fails, the section is read once more.
pub record IsSectionRead (limit : ℕ) (c : Connection) (s : Stream) (sent : List ℕ) (told : Told)
    (d : Connection) (t : Stream) : Type 0 where
  pub whole :
      (more : List ℕ) (fin : Bool) (o : Outcome)
      → Receives limit c s (sent ++ more) fin o → HasMemory o → o ≡ (length sent, told, d, t)
  pub lacking :
      (more : List ℕ) (fin : Bool) (o : Outcome)
      → Receives limit c s (sent ++ more) fin o → (HasMemory o → ⊥)
      → IsUnread limit c sent told d t o
  pub part :
      (a b : List ℕ) (o : Outcome)
      → a ++ b ≡ sent → 0 < length b
      → Receives limit c s a false o → o ≡ (0, More, c, s)

-- the event of a final response with this status, by what its request asked for and whether it succeeds
abbrev pub response_told : Asked → Bool → ℕ → List Field → Told
response_told asked.Session true status fields = SessionReady status fields
response_told asked.Session false status fields = Rejected status fields
response_told _ success status fields = Headers (headers.Response status) fields

-- ---- content

-- The call returned a piece of content: the first of these bytes, at most so many, and at least one.
pub record IsPieceOf (bytes : List ℕ) (most before : ℕ) (c : Connection) (o : Outcome) : Type 0 where
  pub piece : List ℕ
  pub rest : List ℕ
  pub parts : bytes ≡ piece ++ rest
  pub some : 0 < length piece
  pub within : length piece ≤ most
  pub consumed : o.0 ≡ before + length piece
  pub told : o.1 ≡ Data piece
  pub connection : o.2 ≡ c

-- The call on bytes of a DATA frame of which some are missing returns some of them, at least one, and nothing
-- else; it leads to the state in which these are sent.
abbrev pub IsContentRead : ℕ → Endpoint → Connection → Stream → Sending → Type 0
IsContentRead limit e c t s =
    (bytes : List ℕ) (fin : Bool) (o : Outcome)
    → 0 < length bytes → Receives limit c t bytes fin o
    → (p : IsPieceOf bytes s.owed 0 c o) × (next : Sending) × Leads (SentBytes p.piece) s next × Agrees e next o.3

-- The head of a DATA frame with so many bytes: alone it is consumed, and nothing is returned; with some bytes of
-- the payload these are, as above; and before all of it came nothing is consumed.
pub record IsDataRead (limit : ℕ) (e : Endpoint) (c : Connection) (t : Stream) (n : ℕ) (new : Sending) :
    Type 0 where
  pub alone :
      (o : Outcome) → Receives limit c t (data_head n) false o
      → (o.0 ≡ length (data_head n)) × (o.1 ≡ More) × (o.2 ≡ c) × Agrees e new o.3
  pub pieces :
      (more : List ℕ) (fin : Bool) (o : Outcome)
      → 0 < length more → Receives limit c t (data_head n ++ more) fin o
      → (p : IsPieceOf more n (length (data_head n)) c o)
      × (next : Sending) × Leads (SentBytes p.piece) new next × Agrees e next o.3
  pub part :
      (a b : List ℕ) (o : Outcome)
      → a ++ b ≡ data_head n → 0 < length b
      → Receives limit c t a false o → o ≡ (0, More, c, t)

-- ---- the start and the end of a message's stream

-- the stream of a request, of which the first byte came
abbrev pub request_opened : Connection → Stream
request_opened c =
    with_head (with_frames (stream_of frames.Bi) (frames.Frames (message_reader c.streams.endpoint) false))
    (role.Request c.extended)

-- a message that has content, or trailers
pub data IsMessage (p : Place) : Type 0 where
  WithContent : p ≡ sent.Content → IsMessage p
  WithTrailers : p ≡ sent.Trailers → IsMessage p

-- ---- sessions

-- the own stream of a session after a DATA frame with whole capsules
abbrev pub after_frame : (e : Endpoint) (s : Stream) → IsSession e s → Stream
after_frame e s at =
    record s { frames = frames.Frames (reads_data e at.interims reading.Tunnel true 0) at.given }
