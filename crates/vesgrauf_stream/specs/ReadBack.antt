-- What the other end reads of what is said on a half with a message: the items of `wtp_frames`.
use Rattle.std.specs.Prelude.{◌≡◌, ℕ, not, Bool, true, false, List, [], ◌∷◌, ◌++◌, map}
use Rattle.std.specs.List.{flat_map}
use Rattle.wtp_wire.specs.CloseSession.{close_wire}
use Rattle.wtp_frames.specs.declared.endpoint.Endpoint.{Endpoint}
use Rattle.wtp_frames.specs.declared.reader.Reader.{Reader}
use Rattle.wtp_frames.specs.Grammar.{section_item}
use Rattle.wtp_frames.specs.Item.{Item, Byte}
use Rattle.wtp_frames.specs.Run.{run, preceded}
use Rattle.wtp_sending.specs.declared.message.Place.TheVariants.{Head}
use Rattle.wtp_sending.specs.Message.{is_head}
use Rattle.wtp_sending.specs.Sent.{IsAt}
use Rattle.wtp_sending.specs.Writing.{two_numbers}
use Rattle.vesgrauf_stream.specs.declared.writing.half.Half.{Half}
use Rattle.vesgrauf_stream.specs.declared.writing.half.Half.TheVariants.{Message, Raw}
use Rattle.vesgrauf_stream.specs.declared.writing.Writing.{Writing}
use Rattle.vesgrauf_stream.specs.Said.{Said, Headers, Data, Trailers, Drain, Close, Bytes, Call, Says, Calls, wire_of, said_in, all_wire}

-- what it means to a receiver with this limit for field sections; bytes of a stream without messages are in no frame
abbrev pub items_of : ℕ → Said → List Item
items_of limit (Headers section) = section_item limit section ∷ []
items_of limit (Data bytes) = map Byte bytes
items_of limit (Trailers section) = section_item limit section ∷ []
items_of limit Drain = map Byte (two_numbers 0x78ae 0)
items_of limit (Close code reason) = map Byte (close_wire (code, reason))
items_of limit (Bytes bytes) = []

-- the items of all that calls say
abbrev pub all_items : ℕ → List Call → List Item
all_items limit calls = flat_map (items_of limit) (said_in calls)

-- the bytes of one call, and the items
abbrev pub wire_in : Call → List ℕ
wire_in (Says said room fin) = wire_of said
wire_in other = []

abbrev pub items_in : ℕ → Call → List Item
items_in limit (Says said room fin) = items_of limit said
items_in limit other = []

-- The reader of the other end went as far as this half. After the end of the message its stream may end.
abbrev pub IsReadTo : Endpoint → Half → Reader → Type 0
IsReadTo e (Message s) r = IsAt e s.place s.owed r
IsReadTo e Raw r = ⊥
IsReadTo e other r = IsAt e (Head 0) 0 r

-- the last that was sent is no interim response, and the stream is none of a session
abbrev pub is_plain : Half → Bool
is_plain (Message s) = not (is_head s.place)
is_plain Raw = false
is_plain other = true

-- What a call says is read as it was meant, whatever follows, and the reader goes on with the half.
pub record IsReadBack (e : Endpoint) (call : Call) (new : Half) (r : Reader) : Type 0 where
  pub next : Reader
  pub gives :
      (more : List ℕ) → run r (wire_in call ++ more) ≡ preceded (items_in e.max_section call) (run next more)
  pub at : is_plain new ≡ true → IsReadTo e new next

-- these calls lead from one to the other, and none of them sends an interim response or makes the stream one of a session
abbrev pub PlainCalls : List Call → Writing → Writing → Type 0
PlainCalls [] old new = new ≡ old
PlainCalls (call ∷ calls) old new =
    (mid : Writing) × Calls call old mid × (is_plain mid.half ≡ true) × PlainCalls calls mid new

-- All bytes, joined, give all items and nothing else, and leave nothing; the reader is where the half is.
pub record AreReadBack (e : Endpoint) (calls : List Call) (new : Half) (r : Reader) : Type 0 where
  pub next : Reader
  pub gives : run r (all_wire calls) ≡ record { items = all_items e.max_section calls; reader = next; left = [] }
  pub at : IsReadTo e new next
