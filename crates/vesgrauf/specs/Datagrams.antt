-- Datagrams of a connection (RFC 9297, section 2.1).
use Rattle.std.specs.Prelude.{◌++◌, nat_lt, ◌≡◌, ℕ, Bool, true, false, List, [], ◌∷◌, length, Ok}
use Rattle.std.specs.declared.vec.Vec.{Vec}
use Rattle.std.specs.declared.alloc.Global.{Global}
use Rattle.vesgrauf.specs.declared.connection.Connection.{Connection}
use Rattle.vesgrauf.specs.declared.connection.DatagramQueue.{DatagramQueue}
use Rattle.vesgrauf.specs.declared.entry.Entry.{Entry}
use Rattle.vesgrauf_stream.specs.Writing.{session_at, message_at, head_by}
use Rattle.vesgrauf.specs.Limits.{most_datagrams}
use Rattle.wtp_sending.specs.Session.{datagram_head}
use Rattle.vesgrauf.specs.State.{view_of, stream_at, Of}

-- the first bytes of a datagram of the session whose own stream this is
abbrev pub IsHead : Entry → List ℕ → Type 0
IsHead e bytes = (session_at e.writing ≡ Ok tt) × (bytes ≡ head_by datagram_head (message_at e.writing))

-- Fewer datagrams wait than may, of which there is at least one.
abbrev pub has_place : Connection → Bool
has_place c = nat_lt (length c.datagrams.queue.items) (most_datagrams c.config)

-- the first bytes of a datagram of this session are these
abbrev pub HeadOf : Connection → ℕ → List ℕ → Type 0
HeadOf c session bytes = Of (stream_at c session) (λ e. IsHead e bytes)

-- nothing else changes
abbrev pub KeepsOthers : Connection → Connection → Type 0
KeepsOthers c d = view_of d ≡ record (view_of c) { datagrams = d.datagrams.queue.items }

-- the datagrams that wait stay, and what is owed
abbrev pub KeepsDatagrams : Connection → Connection → Type 0
KeepsDatagrams c d =
    (d.datagrams.queue.items ≡ c.datagrams.queue.items) × (d.datagrams.is_owed ≡ c.datagrams.is_owed)

-- a datagram of these bytes is queued after those that wait
abbrev pub Adds : List ℕ → DatagramQueue → DatagramQueue → Type 0
Adds bytes q r =
    (datagram : Vec ℕ Global) × (r.queue.items ≡ q.queue.items ++ (datagram ∷ [])) × (datagram.items ≡ bytes)

-- one of the session is: its first bytes, and the payload
abbrev pub QueuesDatagram : ℕ → List ℕ → Connection → Connection → Type 0
QueuesDatagram session payload c d =
    (first : List ℕ) × HeadOf c session first × Adds (first ++ payload) c.datagrams d.datagrams

-- it is queued if there is a place; otherwise none is, and a `DatagramsWritable` is owed
abbrev pub SendsDatagram : Bool → ℕ → List ℕ → Connection → Connection → Type 0
SendsDatagram true session payload c d = (has_place c ≡ true) × QueuesDatagram session payload c d
SendsDatagram false session payload c d =
    (has_place c ≡ false) × (d.datagrams.queue.items ≡ c.datagrams.queue.items) × (d.datagrams.is_owed ≡ true)
