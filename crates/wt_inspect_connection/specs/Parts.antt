-- The parts of a connection, and where they are shown: the control streams, the QPACK streams, the
-- sessions, each with its request, its streams and its datagrams, the other requests by their IDs,
-- and the rest.
use Rattle.std.specs.Prelude.{ℕ, ◌*◌, ◌^◌, ◌==◌, Bool, true, false, nat_lt, ◌&&◌, ◌||◌, if◌then◌else◌, List, [], ◌∷◌, Option, Some, None}
use Rattle.wt_inspect_connection.specs.declared.list.Sender.{Sender}
use Rattle.wt_inspect_connection.specs.declared.list.Sender.TheVariants as sender-is
use Rattle.wt_inspect_connection.specs.declared.part.Part.{Part}
use Rattle.wt_inspect_connection.specs.declared.part.Group.{Group}
use Rattle.wt_inspect_connection.specs.declared.part.Group.TheVariants as group-is
use Rattle.wt_inspect_connection.specs.declared.part.Role.{Role}
use Rattle.wt_inspect_connection.specs.declared.part.Role.TheVariants as role-is
use Rattle.wt_inspect_connection.specs.declared.purpose.Purpose.{Purpose}
use Rattle.wt_inspect_connection.specs.declared.purpose.Purpose.TheVariants as purpose-is

-- where a stream with this ID and purpose is shown; the flag says whether a session has its ID
abbrev pub group_of : ℕ → Bool → Purpose → Group
group_of id opens purpose-is.Control = group-is.Control
group_of id opens purpose-is.Encoder = group-is.Qpack
group_of id opens purpose-is.Decoder = group-is.Qpack
group_of id opens (purpose-is.Session session) = group-is.Session session
group_of id opens purpose-is.Request =
    if opens then group-is.Session id else group-is.Request id
group_of id opens purpose-is.Push = group-is.Other
group_of id opens purpose-is.Other = group-is.Other

-- what a stream with this purpose is there
abbrev pub role_of : Purpose → Role
role_of purpose-is.Request = role-is.Message
role_of _ = role-is.Stream

-- where a datagram is shown, by its first number, which is the session ID divided by 4 (RFC 9297,
-- section 2.1)
abbrev pub group_by_quarter : Option (ℕ × List ℕ) → Group
group_by_quarter None = group-is.Other
group_by_quarter (Some (quarter, rest)) =
    if nat_lt quarter (2 ^ 60) then group-is.Session (4 * quarter) else group-is.Other

-- both are the same
abbrev pub is_same_group : Group → Group → Bool
is_same_group group-is.Control group-is.Control = true
is_same_group group-is.Qpack group-is.Qpack = true
is_same_group group-is.Other group-is.Other = true
is_same_group (group-is.Session one) (group-is.Session other) = one == other
is_same_group (group-is.Request one) (group-is.Request other) = one == other
is_same_group _ _ = false

-- ---- their order

-- first the control streams, then the QPACK streams, the sessions, the other requests, and the rest
abbrev pub group_rank : Group → ℕ
group_rank group-is.Control = 0
group_rank group-is.Qpack = 1
group_rank (group-is.Session id) = 2
group_rank (group-is.Request id) = 3
group_rank group-is.Other = 4

-- the ID of the session or of the request; 0 in a group that has none
abbrev pub group_id : Group → ℕ
group_id (group-is.Session id) = id
group_id (group-is.Request id) = id
group_id _ = 0

-- first a request and its response, then streams, and then datagrams
abbrev pub role_rank : Role → ℕ
role_rank role-is.Message = 0
role_rank role-is.Stream = 1
role_rank role-is.Datagram = 2

-- first what the client sent, and then what the server did
abbrev pub sender_rank : Sender → ℕ
sender_rank sender-is.Client = 0
sender_rank sender-is.Server = 1

-- what decides where a part is shown, the weightiest first: its group, and the ID of this; what it is
-- there; the ID of its stream; who sent it; and its place in the list
abbrev pub ranks_of : Part → List ℕ
ranks_of part =
    group_rank part.group
    ∷ group_id part.group
    ∷ role_rank part.role
    ∷ part.id
    ∷ sender_rank part.sender
    ∷ part.index
    ∷ []

-- the first two numbers that differ are in this order
abbrev pub is_below : List ℕ → List ℕ → Bool
is_below (m ∷ ms) (n ∷ ns) = nat_lt m n || (m == n && is_below ms ns)
is_below _ _ = false

-- a part is shown before another
abbrev pub is_before : Part → Part → Bool
is_before one other = is_below (ranks_of one) (ranks_of other)
