-- The IDs of streams (RFC 9000, section 2.1).
use Rattle.std.specs.Prelude.{◌≡◌, ◌==◌, ◌&&◌, ℕ, ◌+◌, ◌-◌, ◌/◌, ◌%◌, nat_lt, Bool, true, false, if◌then◌else◌, [], Option, Some, None}
use Rattle.wtp_frames.specs.declared.endpoint.Side.{Side}
use Rattle.wtp_frames.specs.declared.endpoint.Side.TheVariants as side
use Rattle.vesgrauf.specs.declared.output.StreamKind.{StreamKind}
use Rattle.vesgrauf.specs.declared.output.StreamKind.TheVariants as kind
use Rattle.vesgrauf.specs.declared.connection.ids.Ids.{Ids}

-- the last bit of the IDs of the streams that this side opens
abbrev pub own_bit : Side → ℕ
own_bit side.Client = 0
own_bit side.Server = 1

-- that of the other side
abbrev pub peer_bit : Side → ℕ
peer_bit side.Client = 1
peer_bit side.Server = 0

-- a stream of which the last two bits are 0 or 1 is bidirectional
abbrev pub kind_by : Bool → StreamKind
kind_by true = kind.Bidirectional
kind_by false = kind.Unidirectional

abbrev pub kind_of : ℕ → StreamKind
kind_of id = kind_by (nat_lt (id % 4) 2)

-- the next own stream of a kind
abbrev pub next_own : Ids → StreamKind → ℕ
next_own ids kind.Bidirectional = ids.bidirectional
next_own ids kind.Unidirectional = ids.unidirectional

-- the next own stream of a kind that QUIC is to open
abbrev pub unopened : Ids → StreamKind → ℕ
unopened ids kind.Bidirectional = ids.unopened_bidirectional
unopened ids kind.Unidirectional = ids.unopened_unidirectional

-- this is the next of its kind that QUIC is to open
abbrev pub opens : Ids → ℕ → Bool
opens ids id = id == unopened ids (kind_of id) && nat_lt id (next_own ids (kind_of id))

-- how many of a kind QUIC is to open
abbrev pub count_unopened : Ids → StreamKind → ℕ
count_unopened ids k = (next_own ids k - unopened ids k) / 4

-- the first stream of the peer, of a kind, that was not seen
abbrev pub next_peer : Ids → StreamKind → ℕ
next_peer ids kind.Bidirectional = ids.peer_bidirectional
next_peer ids kind.Unidirectional = ids.peer_unidirectional

-- there was a stream with this ID
abbrev pub was : Ids → ℕ → Bool
was ids id =
    if id % 2 == own_bit ids.side then nat_lt id (next_own ids (kind_of id))
    else nat_lt id (next_peer ids (kind_of id))

-- QUIC opens no stream of a kind for now
abbrev pub blocks : Ids → StreamKind → Bool
blocks ids kind.Bidirectional = ids.blocks_bidirectional
blocks ids kind.Unidirectional = ids.blocks_unidirectional

-- a stream of a kind is to be opened, and may be
abbrev pub may_open : Ids → StreamKind → Bool
may_open ids k = if blocks ids k then false else nat_lt (unopened ids k) (next_own ids k)

abbrev pub opens_by : Bool → ℕ → Option ℕ → Option ℕ
opens_by true id other = Some id
opens_by false id other = other

-- unidirectional streams are opened first: the critical ones are among them
abbrev pub to_open : Ids → Option ℕ
to_open ids =
    opens_by (may_open ids kind.Unidirectional) ids.unopened_unidirectional
    (opens_by (may_open ids kind.Bidirectional) ids.unopened_bidirectional None)

-- the next own stream of a kind is taken
abbrev pub taken : Ids → StreamKind → Ids
taken ids kind.Bidirectional = record ids { bidirectional = ids.bidirectional + 4 }
taken ids kind.Unidirectional = record ids { unidirectional = ids.unidirectional + 4 }

-- QUIC has opened the next stream of a kind
abbrev pub opened : Ids → StreamKind → Ids
opened ids kind.Bidirectional = record ids { unopened_bidirectional = ids.unopened_bidirectional + 4 }
opened ids kind.Unidirectional = record ids { unopened_unidirectional = ids.unopened_unidirectional + 4 }

-- the next stream of the peer, of a kind, was seen
abbrev pub seen : Ids → StreamKind → Ids
seen ids kind.Bidirectional = record ids { peer_bidirectional = ids.peer_bidirectional + 4 }
seen ids kind.Unidirectional = record ids { peer_unidirectional = ids.peer_unidirectional + 4 }

-- QUIC opens no stream of a kind, or does again
abbrev pub blocked : Ids → StreamKind → Bool → Ids
blocked ids kind.Bidirectional b = record ids { blocks_bidirectional = b }
blocked ids kind.Unidirectional b = record ids { blocks_unidirectional = b }

-- a connection without streams
pub record IsFirst (s : Side) (ids : Ids) : Type 0 where
  pub of_side : ids.side ≡ s
  pub own : (k : StreamKind) → (next_own ids k ≡ unopened ids k) × (blocks ids k ≡ false)
  pub bidirectional : ids.bidirectional ≡ own_bit s
  pub unidirectional : ids.unidirectional ≡ own_bit s + 2
  pub peer_bidirectional : ids.peer_bidirectional ≡ peer_bit s
  pub peer_unidirectional : ids.peer_unidirectional ≡ peer_bit s + 2
  pub members : ids.members.keys ≡ []
