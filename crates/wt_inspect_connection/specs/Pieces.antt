-- What was recorded of a connection: the entries of a list, and the bytes of their files.
use Rattle.std.specs.Prelude.{ℕ, nat_lt, ◌==◌, ◌&&◌, Bool, true, false, if◌then◌else◌}
use Rattle.std.specs.Prelude.{List, [], ◌∷◌, Option, Some, None, option_map}
use Rattle.wtp_core.specs.Varint.{number_at}
use Rattle.wt_inspect_connection.specs.Lists.{has_opened, is_same_sender}
use Rattle.wt_inspect_connection.specs.Parts.{group_by_quarter, group_of, role_of}
use Rattle.wt_inspect_connection.specs.Purposes.{purpose_of}
use Rattle.wt_inspect_connection.specs.declared.list.Channel.{Channel}
use Rattle.wt_inspect_connection.specs.declared.list.Channel.TheVariants as channel-is
use Rattle.wt_inspect_connection.specs.declared.list.Sender.{Sender}
use Rattle.wt_inspect_connection.specs.declared.part.Group.{Group}
use Rattle.wt_inspect_connection.specs.declared.part.Group.TheVariants as group-is
use Rattle.wt_inspect_connection.specs.declared.part.Part.{Part}
use Rattle.wt_inspect_connection.specs.declared.part.Role.TheVariants as role-is
use Rattle.wt_inspect_connection.specs.declared.piece.Piece.{Piece}
use Rattle.wt_inspect_connection.specs.declared.purpose.Purpose.{Purpose}
use Rattle.wt_inspect_connection.specs.declared.purpose.Purpose.TheVariants as purpose-is

-- this is what this end sent there, and the end opened that stream
abbrev pub opens_on : ℕ → Sender → Channel → Bool
opens_on id sender (channel-is.Stream other) = other == id && has_opened sender id
opens_on id _ channel-is.Datagram = false

abbrev pub is_opening : ℕ → Piece → Bool
is_opening id piece = opens_on id piece.entry.sender piece.entry.channel

-- what the end that opened a stream sent on it; no bytes, if it was not recorded
abbrev pub opening_bytes : ℕ → List Piece → List ℕ
opening_bytes id [] = []
opening_bytes id (piece ∷ pieces) =
    if is_opening id piece then piece.bytes.items else opening_bytes id pieces

-- what a stream of a connection is for
abbrev pub purpose_in : List Piece → ℕ → Purpose
purpose_in pieces id = purpose_of id (opening_bytes id pieces)

-- both are the same, and a control stream or one of QPACK
abbrev pub is_same_critical : Purpose → Purpose → Bool
is_same_critical purpose-is.Control purpose-is.Control = true
is_same_critical purpose-is.Encoder purpose-is.Encoder = true
is_same_critical purpose-is.Decoder purpose-is.Decoder = true
is_same_critical _ _ = false

-- the ID of the stream and these bytes, if this end sent them there and the stream is for this
abbrev pub sent_on : Sender → Purpose → List ℕ → Sender → Channel → Option (ℕ × List ℕ)
sent_on sender purpose bytes by (channel-is.Stream id) =
    if is_same_sender by sender && is_same_critical (purpose_of id bytes) purpose
    then Some (id, bytes) else None
sent_on _ _ _ _ channel-is.Datagram = None

-- the ID of an end's stream for this, and what it sent there, if a piece is that
abbrev pub sent_for : Sender → Purpose → Piece → Option (ℕ × List ℕ)
sent_for sender purpose piece =
    sent_on sender purpose piece.bytes.items piece.entry.sender piece.entry.channel

-- of two streams the one with the lower ID, which was opened first (RFC 9000, section 2.1)
abbrev pub first_of : Option (ℕ × List ℕ) → Option (ℕ × List ℕ) → Option (ℕ × List ℕ)
first_of None other = other
first_of (Some one) None = Some one
first_of (Some one) (Some other) = if nat_lt other.0 one.0 then Some other else Some one

-- the ID of the first stream that an end opened for this, and what it sent there
abbrev pub first_for : Sender → Purpose → List Piece → Option (ℕ × List ℕ)
first_for _ _ [] = None
first_for sender purpose (piece ∷ pieces) =
    first_of (sent_for sender purpose piece) (first_for sender purpose pieces)

-- what an end sent on its stream for this, a control stream or one of QPACK, if it was recorded;
-- that on the stream with the lowest ID, if it sent several
abbrev pub stream_for : Sender → Purpose → List Piece → Option (List ℕ)
stream_for sender purpose pieces = option_map (λ one. one.1) (first_for sender purpose pieces)

abbrev pub session_in_purpose : Purpose → Option ℕ
session_in_purpose (purpose-is.Session id) = Some id
session_in_purpose _ = None

abbrev pub session_in_group : Group → Option ℕ
session_in_group (group-is.Session id) = Some id
session_in_group _ = None

-- the ID of the session that bytes on a channel are of, if what they begin with says so
abbrev pub session_on : List Piece → List ℕ → Channel → Option ℕ
session_on pieces bytes (channel-is.Stream id) = session_in_purpose (purpose_in pieces id)
session_on pieces bytes channel-is.Datagram = session_in_group (group_by_quarter (number_at bytes))

abbrev pub session_of : List Piece → Piece → Option ℕ
session_of pieces piece = session_on pieces piece.bytes.items piece.entry.channel

-- the ID, if there is one, and then these
abbrev pub with_id : Option ℕ → List ℕ → List ℕ
with_id None ids = ids
with_id (Some id) ids = id ∷ ids

-- the IDs of the sessions that these pieces of a connection are of
abbrev pub session_ids : List Piece → List Piece → List ℕ
session_ids all [] = []
session_ids all (piece ∷ pieces) = with_id (session_of all piece) (session_ids all pieces)

-- where bytes that were sent on a channel, which have this place in the list, are shown
abbrev pub part_on : List Piece → ℕ → List ℕ → Bool → Sender → Channel → Part
part_on pieces index bytes opens sender (channel-is.Stream id) = record {
  group = group_of id opens (purpose_in pieces id);
  role = role_of (purpose_in pieces id);
  id = id;
  sender = sender;
  index = index;
}
part_on pieces index bytes opens sender channel-is.Datagram = record {
  group = group_by_quarter (number_at bytes);
  role = role-is.Datagram;
  id = 0;
  sender = sender;
  index = index;
}

abbrev pub part_of : List Piece → ℕ → Piece → Bool → Part
part_of pieces index piece opens =
    part_on pieces index piece.bytes.items opens piece.entry.sender piece.entry.channel
