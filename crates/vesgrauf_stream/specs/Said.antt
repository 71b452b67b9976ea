-- What is said on the own half of a stream, call by call, and what is queued of it (RFC 9114, sections 4.1 and 7.2.1).
use Rattle.std.specs.Prelude.{◌≡◌, ◌⊎◌, ◌||◌, ℕ, if◌then◌else◌, Bool, true, false, List, [], ◌∷◌, ◌++◌, length, Ok}
use Rattle.std.specs.List.{flat_map}
use Rattle.wtp_qpack.specs.Field.{Field}
use Rattle.wtp_messages.specs.declared.message.Role.TheVariants as role
use Rattle.wtp_messages.specs.declared.response.Asked.{Asked}
use Rattle.wtp_sending.specs.declared.message.Sending.{Sending}
use Rattle.wtp_sending.specs.declared.peer.Peer.{Peer}
use Rattle.wtp_sending.specs.Encoded.{section_wire, SendsHeadAs, SendsTrailersAs}
use Rattle.wtp_sending.specs.Message.{sending_of}
use Rattle.wtp_sending.specs.Session.{in_session, drain_wire, close_data, after_close}
use Rattle.vesgrauf_queue.specs.Steps.{Step, Queues, Finishes, Resets, Leads}
use Rattle.vesgrauf_stream.specs.declared.writing.half.Half.{Half}
use Rattle.vesgrauf_stream.specs.declared.writing.half.Half.TheVariants.{Idle, Asked as AskedFor, Message, Raw}
use Rattle.vesgrauf_stream.specs.declared.writing.Writing.{Writing}
use Rattle.vesgrauf_stream.specs.Writing.{asked_half, raw_half, connected, is_raw, ends_if, end_if, part_head, after_part, after_content}

-- ---- what is said

-- HEADERS or trailers in this section; content, in one DATA frame if it has bytes; bytes of a stream without messages;
-- the capsules that announce and close a session.
pub data Said : Type 0 where
  Headers : (section : List ℕ) → Said
  Data : List ℕ → Said
  Trailers : (section : List ℕ) → Said
  Drain : Said
  Close : (code : ℕ) → (reason : List ℕ) → Said
  Bytes : List ℕ → Said

-- the bytes of the stream that say it
abbrev pub wire_of : Said → List ℕ
wire_of (Headers section) = section_wire section
wire_of (Data bytes) = part_head (length bytes) ++ bytes
wire_of (Trailers section) = section_wire section
wire_of Drain = drain_wire
wire_of (Close code reason) = close_data code reason
wire_of (Bytes bytes) = bytes

-- what bytes say on a half
abbrev pub content_of : Half → List ℕ → Said
content_of h bytes = if is_raw h then Bytes bytes else Data bytes

-- ---- the half

-- a message that begins on this half, or goes on
abbrev pub IsMessage : Half → Sending → Type 0
IsMessage Idle s = (id : ℕ) × (peer : Peer) × (s ≡ sending_of id (role.Request peer.extended_connect) peer)
IsMessage (AskedFor asked) s = (id : ℕ) × (peer : Peer) × (s ≡ sending_of id (role.Response asked) peer)
IsMessage (Message first) s = s ≡ first
IsMessage other s = ⊥

-- it may end here if this is true, and is the message of this half
abbrev pub IsLast : (fin : Bool) → Sending → Half → Type 0
IsLast fin s new = (last : Sending) × (ends_if fin s ≡ Ok last) × (new ≡ Message last)

-- How a half goes on: by the rules of `wtp_sending`, and then maybe by the end. Trailers and the capsule that closes a
-- session are followed by the end.
abbrev pub Goes : Said → (fin : Bool) → Half → Half → Type 0
Goes (Headers section) fin old new =
    (fields : List Field) × (s : Sending) × (next : Sending) × IsMessage old s × SendsHeadAs section s fields next
    × IsLast fin next new
Goes (Data bytes) fin (Message s) new = after_part (length bytes) fin s ≡ Ok new
Goes (Trailers section) true (Message s) new =
    (fields : List Field) × (next : Sending) × SendsTrailersAs section s fields next × IsLast true next new
Goes Drain false (Message s) new = (in_session s.place ≡ Ok tt) × (new ≡ Message s)
Goes (Close code reason) true (Message s) new =
    (last : Sending) × (after_close s reason ≡ Ok last) × (new ≡ Message last)
Goes (Bytes bytes) fin Raw new = new ≡ Raw
Goes said fin old new = ⊥

-- ---- calls

-- Says: something is said, with room after it or not, and maybe the end. Ends: the end alone. Cuts: the stream is reset.
-- Turns: the half changes, and nothing is queued. Takes: a step of QUIC.
pub data Call : Type 0 where
  Says : Said → (room fin : Bool) → Call
  Ends : Call
  Cuts : (code size : ℕ) → Call
  Turns : Call
  Takes : Step → Call

-- the steps of the queue
abbrev pub steps_of : Call → List Step
steps_of (Says said room fin) = Queues (wire_of said) room ∷ end_if fin
steps_of Ends = Finishes ∷ []
steps_of (Cuts code size) = Resets code size ∷ []
steps_of Turns = []
steps_of (Takes step) = step ∷ []

-- a request is taken, the stream becomes one of a session, or a 2xx response is taken
abbrev pub Turned : Half → Half → Type 0
Turned old new =
    ((asked : Asked) × (new ≡ asked_half asked old)) ⊎ ((new ≡ raw_half old) ⊎ (new ≡ connected old))

-- QUIC takes something or a mark is told, and nothing is queued
abbrev pub is_taking : Step → Bool
is_taking (Queues bytes room) = false
is_taking Finishes = false
is_taking (Resets code size) = false
is_taking other = true

-- what a call does to the half
abbrev pub HalfGoes : Call → Half → Half → Type 0
HalfGoes (Says said room fin) old new = Goes said fin old new
HalfGoes Ends old new = after_content 0 true old ≡ Ok new
HalfGoes (Cuts code size) old new = new ≡ old
HalfGoes Turns old new = Turned old new
HalfGoes (Takes step) old new = (is_taking step ≡ true) × (new ≡ old)

-- what a call does
pub record Calls (call : Call) (old new : Writing) : Type 0 where
  pub half : HalfGoes call old.half new.half
  pub queue : Leads (steps_of call) old.queue new.queue

-- these calls lead from one to the other
abbrev pub CallsAll : List Call → Writing → Writing → Type 0
CallsAll [] old new = new ≡ old
CallsAll (call ∷ calls) old new = (mid : Writing) × Calls call old mid × CallsAll calls mid new

-- the steps of the queue that these calls take
abbrev pub all_steps : List Call → List Step
all_steps calls = flat_map steps_of calls

-- all that these calls say, in order
abbrev pub said_in : List Call → List Said
said_in [] = []
said_in (Says said room fin ∷ calls) = said ∷ said_in calls
said_in (call ∷ calls) = said_in calls

-- the bytes that say it
abbrev pub all_wire : List Call → List ℕ
all_wire calls = flat_map wire_of (said_in calls)

-- a call that ends the stream
abbrev pub is_end : Call → Bool
is_end (Says said room fin) = fin
is_end Ends = true
is_end (Cuts code size) = true
is_end other = false

-- one of these calls ended it
abbrev pub has_end : List Call → Bool
has_end [] = false
has_end (call ∷ calls) = is_end call || has_end calls
