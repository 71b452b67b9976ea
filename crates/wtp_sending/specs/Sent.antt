-- What is sent on the stream of a message, call by call, and what the other end reads of it.
use Rattle.std.specs.Prelude.{◌≡◌, ℕ, ◌<◌, Bool, true, false, List, [], ◌∷◌, ◌++◌, map, length, Option, None, Result, Ok, IsOk}
use Rattle.wtp_wire.specs.CloseSession.{close_wire}
use Rattle.wtp_qpack.specs.Field.{Field}
use Rattle.wtp_qpack.specs.FieldSection.{shortest_section}
use Rattle.wtp_messages.specs.declared.malformed.Malformed.{Malformed}
use Rattle.wtp_messages.specs.declared.message.Message.{Message}
use Rattle.wtp_messages.specs.declared.message.Section.{Section}
use Rattle.wtp_messages.specs.Message.{SectionComes}
use Rattle.wtp_frames.specs.declared.endpoint.Endpoint.{Endpoint}
use Rattle.wtp_frames.specs.declared.endpoint.Side.TheVariants.{Client}
use Rattle.wtp_frames.specs.declared.reader.Place.{Place as Reading}
use Rattle.wtp_frames.specs.declared.reader.Place.TheVariants as reading
use Rattle.wtp_frames.specs.declared.reader.Reader.{Reader}
use Rattle.wtp_frames.specs.Grammar.{section_item}
use Rattle.wtp_frames.specs.Interim.{after_interim}
use Rattle.wtp_frames.specs.Item.{Item, Byte}
use Rattle.wtp_frames.specs.Reading.{by_end}
use Rattle.wtp_frames.specs.Run.{run, preceded}
use Rattle.wtp_frames.specs.Start.{awaiting}
use Rattle.wtp_sending.specs.declared.message.Place.{Place}
use Rattle.wtp_sending.specs.declared.message.Place.TheVariants.{Head, Content, Connecting, Tunnel, Trailers, Ended}
use Rattle.wtp_sending.specs.declared.message.Place.TheVariants as sent
use Rattle.wtp_sending.specs.declared.message.Sending.{Sending}
use Rattle.wtp_sending.specs.Message.{is_head, headers_wire, data_head, SendsHead, SendsTrailers, after_data, after_bytes, after_end, opens, placed}
use Rattle.wtp_sending.specs.Session.{in_session, drain_wire, close_data, after_close}
use Rattle.wtp_sending.specs.Writing.{two_numbers}

-- one call that was not refused; the bytes of DATA are the caller's own
pub data Sent : Type 0 where
  SentHeaders : List Field → Sent
  SentDataHead : ℕ → Sent
  SentBytes : List ℕ → Sent
  SentTrailers : List Field → Sent
  SentDrain : Sent
  SentClose : ℕ → List ℕ → Sent
  Connected : Sent
  SentEnd : Sent

-- the state before the call and the state after it
abbrev pub Leads : Sent → Sending → Sending → Type 0
Leads (SentHeaders fields) old new = SendsHead old fields new
Leads (SentDataHead n) old new = after_data old n ≡ Ok new
Leads (SentBytes bytes) old new = after_bytes old (length bytes) ≡ Ok new
Leads (SentTrailers fields) old new = SendsTrailers old fields new
Leads SentDrain old new = (in_session old.place ≡ Ok tt) × (new ≡ old)
Leads (SentClose code reason) old new = after_close old reason ≡ Ok new
Leads Connected old new = placed old (opens old.place) ≡ Ok new
Leads SentEnd old new = after_end old ≡ Ok new

-- the bytes on the stream
abbrev pub bytes_of : Sent → List ℕ
bytes_of (SentHeaders fields) = headers_wire fields
bytes_of (SentDataHead n) = data_head n
bytes_of (SentBytes bytes) = bytes
bytes_of (SentTrailers fields) = headers_wire fields
bytes_of SentDrain = drain_wire
bytes_of (SentClose code reason) = close_data code reason
bytes_of Connected = []
bytes_of SentEnd = []

-- what they mean to a receiver with this limit for field sections
abbrev pub items_of : ℕ → Sent → List Item
items_of limit (SentHeaders fields) = section_item limit (shortest_section fields) ∷ []
items_of limit (SentDataHead n) = []
items_of limit (SentBytes bytes) = map Byte bytes
items_of limit (SentTrailers fields) = section_item limit (shortest_section fields) ∷ []
items_of limit SentDrain = map Byte (two_numbers 0x78ae 0)
items_of limit (SentClose code reason) = map Byte (close_wire (code, reason))
items_of limit Connected = []
items_of limit SentEnd = []

-- ---- the other end

-- within DATA of which so many bytes are missing
abbrev pub reads_data : Endpoint → ℕ → Reading → Bool → ℕ → Reader
reads_data e k place streamed n = record {
  endpoint = e;
  place = place;
  remaining = n;
  streamed = streamed;
  idle = 0;
  interims = k;
}

-- the reader is after the HEADERS, within a frame if bytes of it are missing
pub record IsInBody (e : Endpoint) (place : Reading) (owed : ℕ) (r : Reader) : Type 0 where
  pub interims : ℕ
  pub streamed : Bool
  pub is : r ≡ reads_data e interims place streamed owed
  pub given : 0 < owed → streamed ≡ true

-- The reader of the other end went as far as the sender. After the end of the message its stream
-- may end.
abbrev pub IsAt : Endpoint → Place → ℕ → Reader → Type 0
IsAt e (Head k) owed r = (r ≡ awaiting e k) × (owed ≡ 0)
IsAt e Content owed r = IsInBody e reading.Body owed r
IsAt e (Connecting session) owed r = IsInBody e reading.Body owed r × (owed ≡ 0)
IsAt e Tunnel owed r = IsInBody e reading.Body owed r
IsAt e sent.Session owed r = IsInBody e reading.Body owed r × (owed ≡ 0)
IsAt e Trailers owed r = IsInBody e reading.AfterTrailers owed r × (owed ≡ 0)
IsAt e Ended owed r = (by_end e.side r.place r.remaining ≡ Ok tt) × (owed ≡ 0)

-- after the HEADERS of an interim response the receiver, a client, says what they are
abbrev pub IsAfter : Endpoint → Place → ℕ → Reader → Type 0
IsAfter e (Head k) owed r =
    (owed ≡ 0) × (e.side ≡ Client → after_interim r ≡ (awaiting e k, None))
IsAfter e place owed r = IsAt e place owed r

-- What the call wrote is read as it was meant, whatever follows, and the reader goes on with the
-- sender.
pub record IsRead (e : Endpoint) (x : Sent) (new : Sending) (r : Reader) : Type 0 where
  pub next : Reader
  pub gives :
      (more : List ℕ)
      → run r (bytes_of x ++ more) ≡ preceded (items_of e.max_section x) (run next more)
  pub at : IsAfter e new.place new.owed next

-- ---- many calls

-- the calls lead from one state to another, and none of them sends an interim response
abbrev pub LeadsAll : List Sent → Sending → Sending → Type 0
LeadsAll [] old new = new ≡ old
LeadsAll (x ∷ xs) old new =
    (mid : Sending) × Leads x old mid × (is_head mid.place ≡ false) × LeadsAll xs mid new

abbrev pub all_bytes : List Sent → List ℕ
all_bytes [] = []
all_bytes (x ∷ xs) = bytes_of x ++ all_bytes xs

abbrev pub all_items : ℕ → List Sent → List Item
all_items limit [] = []
all_items limit (x ∷ xs) = items_of limit x ++ all_items limit xs

-- All bytes, joined, give all items and nothing else, and leave nothing; the reader is where the
-- sender is.
pub record AreRead (e : Endpoint) (xs : List Sent) (new : Sending) (r : Reader) : Type 0 where
  pub next : Reader
  pub gives :
      run r (all_bytes xs)
      ≡ record { items = all_items e.max_section xs; reader = next; left = [] }
  pub at : IsAt e new.place new.owed next

-- ---- messages

-- A message that is received as far as this one was sent accepts the section, and then is as far as
-- the other.
abbrev pub Takes : Message → List Field → Message → Type 0
Takes m fields new =
    (result : Result Section Malformed) (n : Message) → SectionComes m.stage m fields result n
    → IsOk result × (n ≡ new)
