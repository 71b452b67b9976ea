-- What the program shows of a recorded connection, and its exit status then.
use Rattle.std.specs.Prelude.{◌≡◌, ℕ, ◌+◌, ◌||◌, Bool, true, false, if◌then◌else◌, is_some}
use Rattle.std.specs.Prelude.{List, [], ◌∷◌, ◌++◌, length, Option, Some, None, slice_get}
use Rattle.std.specs.List.Sorted.{IsPermutation, IsSortedBy}
use Rattle.wt_inspection.specs.Results.{Item}
use Rattle.wt_inspection.specs.declared.reading.Recorded.{Recorded}
use Rattle.wt_inspection_model.specs.declared.item.Content.TheVariants as content-is
use Rattle.wt_inspect_connection.specs.Parts.{is_before}
use Rattle.wt_inspect_connection.specs.declared.list.Channel.{Channel}
use Rattle.wt_inspect_connection.specs.declared.list.Sender.{Sender}
use Rattle.wt_inspect_connection.specs.declared.list.Sender.TheVariants as sender-is
use Rattle.wt_inspect_connection.specs.declared.part.Group.{Group}
use Rattle.wt_inspect_connection.specs.declared.part.Part.{Part}
use Rattle.wt_inspect_connection.specs.declared.piece.Piece.{Piece}
use Rattle.wt_inspect_connection.specs.declared.purpose.Purpose.{Purpose}
use Rattle.wt_inspect_connection.specs.declared.purpose.Purpose.TheVariants as purpose-is
use Rattle.wtp_dynamic.specs.declared.error.EncoderStreamError.{EncoderStreamError}
use Rattle.wt_inspect.specs.Connections.{AreSessions, IsTable, fault_of, is_critical_one, is_new}
use Rattle.wt_inspect.specs.Connections.{parts_from, purpose_on, recorded_on, sent_of, worse}
use Rattle.wt_inspect.specs.SessionsShown.{ShowsSessions}
use Rattle.wt_inspect.specs.Sheets.{AreLinesOf}
use Rattle.wt_inspect.specs.Shown.{IsView, Shows, shown_input}
use Rattle.wt_inspect.specs.declared.arguments.Arguments.{Arguments}
use Rattle.wt_inspect.specs.declared.arguments.Output.{Output}
use Rattle.wt_inspect.specs.declared.arguments.Output.TheVariants as output-is
use Rattle.wt_inspect.specs.declared.connection.Connection.{Connection}
use Rattle.wt_inspect.specs.declared.connection.tables.Table.{Table}

-- the arguments have what is not for a connection: an encoder stream of their own
abbrev pub refuses : Arguments → Bool
refuses arguments = is_some arguments.encoder

-- what is known of the table of an end
abbrev pub table_of : Connection → Sender → Table
table_of c sender-is.Client = c.client.now
table_of c sender-is.Server = c.server.now

-- the arguments by which what was sent on a channel is shown, if it is read as this: a control stream
-- and one of QPACK are open as long as the connection
abbrev pub arguments_for : Connection → Recorded → Channel → Arguments
arguments_for c recorded channel = record c.arguments.now {
  recorded = recorded;
  is_open = c.arguments.now.is_open || is_critical_one (purpose_on c.pieces.now channel);
}

-- the item of so many bytes that are all an application's
abbrev pub payload_item : ℕ → Item
payload_item size = record { at = 0; length = size; content = content-is.Payload }

-- the one item of bytes that are all an application's, if there are some
abbrev pub payload_items : List ℕ → List Item
payload_items [] = []
payload_items (byte ∷ bytes) = payload_item (length (byte ∷ bytes)) ∷ []

-- what is shown of bytes that an end sent on a channel, and the status: the bytes as this kind of
-- recording, or one item
abbrev pub ShowsAs : Connection → Option Recorded → Sender → Channel → List ℕ → List ℕ → ℕ → Type 0
ShowsAs c (Some recorded) sender channel bytes text status =
    Shows (shown_input (sent_of (table_of c sender)) (arguments_for c recorded channel) bytes)
    (arguments_for c recorded channel) text status
ShowsAs c None _ channel bytes text status =
    IsView c.arguments.now.output c.arguments.now.has_payload bytes (payload_items bytes) [] text
    × (status ≡ 0)

abbrev pub ShowsBytes : Connection → Piece → List ℕ → ℕ → Type 0
ShowsBytes c piece text status =
    ShowsAs c (recorded_on c.pieces.now c.sessions.now piece.entry.sender piece.entry.channel)
    piece.entry.sender piece.entry.channel piece.bytes.items text status

-- the fault of an encoder stream, of an end with this table
abbrev pub fault_for : Option Purpose → Table → Option EncoderStreamError
fault_for (Some purpose-is.Encoder) table = fault_of table
fault_for _ table = None

abbrev pub fault_in : Connection → Piece → Option EncoderStreamError
fault_in c piece =
    fault_for (purpose_on c.pieces.now piece.entry.channel) (table_of c piece.entry.sender)

abbrev pub count_if : Bool → ℕ
count_if true = 1
count_if false = 0

-- how many lines come before the items of a piece: in JSON one; in text one for the group, if the
-- piece is its first, one for the piece, and one for the fault of an encoder stream
abbrev pub head_count : Output → Bool → Option EncoderStreamError → ℕ
head_count output-is.Json is_first fault = 1
head_count _ is_first fault = count_if is_first + 1 + count_if (is_some fault)

-- what is shown of a piece, and the status, which is 2 too for the fault of an encoder stream
pub record ShowsPiece (c : Connection) (is_first : Bool) (piece : Piece) (text : List ℕ)
    (status : ℕ) : Type 0 where
  pub head : List ℕ
  pub body : List ℕ
  pub shown : ℕ
  pub text_is : text ≡ head ++ body
  pub head_is : AreLinesOf c.arguments.now.output
      (head_count c.arguments.now.output is_first (fault_in c piece)) head
  pub body_is : ShowsBytes c piece body shown
  pub status_is : status ≡ (if is_some (fault_in c piece) then 2 else shown)

-- the same of the piece with this place in the list, if there is one
abbrev pub ShowsAt : Connection → Bool → Option Piece → List ℕ → ℕ → Type 0
ShowsAt c is_first (Some piece) text status = ShowsPiece c is_first piece text status
ShowsAt c is_first None text status = (text ≡ []) × (status ≡ 0)

abbrev pub ShowsPart : Connection → Bool → Part → List ℕ → ℕ → Type 0
ShowsPart c is_first part text status =
    ShowsAt c is_first (slice_get c.pieces.now part.index) text status

-- what is shown of parts that come after one of this group, if one comes before, and the status: 2,
-- if one of them has it
abbrev pub ShowsParts : Connection → Option Group → List Part → List ℕ → ℕ → Type 0
ShowsParts c before [] text status = (text ≡ []) × (status ≡ 0)
ShowsParts c before (part ∷ parts) text status =
    (first : List ℕ) × (more : List ℕ) × (one : ℕ) × (other : ℕ) × (text ≡ first ++ more)
    × (status ≡ worse one other)
    × ShowsPart c (is_new before part.group) part first one
    × ShowsParts c (Some part.group) parts more other

-- what is shown of these pieces of a connection by these arguments, in this order of their parts, and
-- then of its sessions; and the status
pub record ShowsConnection (arguments : Arguments) (pieces : List Piece) (text : List ℕ)
    (status : ℕ) : Type 0 where
  pub known : Connection
  pub parts : List Part
  pub arguments_are : known.arguments.now ≡ arguments
  pub pieces_are : known.pieces.now ≡ pieces
  pub client : IsTable pieces sender-is.Client known.client.now
  pub server : IsTable pieces sender-is.Server known.server.now
  pub sessions : AreSessions pieces known.sessions.now
  pub parts_are : IsPermutation (parts_from 0 pieces known.sessions.now pieces) parts
  pub order : IsSortedBy is_before parts
  pub shown : List ℕ
  pub rest : List ℕ
  pub text_is : text ≡ shown ++ rest
  pub shows : ShowsParts known None parts shown status
  pub sums : ShowsSessions known rest
