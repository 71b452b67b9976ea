-- What is known of a recorded connection as a whole, and what its pieces are read as.
use Rattle.std.specs.Prelude.{◌≡◌, ◌≢◌, ℕ, suc, ◌==◌, ◌<◌, ◌^◌, ◌⊎◌, Bool, true, false, not, if◌then◌else◌}
use Rattle.std.specs.Prelude.{List, [], ◌∷◌, ◌++◌, Option, Some, None}
use Rattle.std.specs.List.{list_any}
use Rattle.wtp_dynamic.specs.Stream.{Breaks}
use Rattle.wtp_dynamic.specs.Table.{Table as Entries, empty_table}
use Rattle.wtp_dynamic.specs.declared.error.EncoderStreamError.{EncoderStreamError}
use Rattle.wtp_dynamic.specs.declared.error.EncoderStreamError.TheVariants as stream-is
use Rattle.wt_inspection.specs.Insertions.{Sent, instructions_in}
use Rattle.wt_inspection.specs.Items.{HasGiven, Input, IsDone, input_of, input_with}
use Rattle.wt_inspection.specs.Results.{Item}
use Rattle.wt_inspection.specs.SessionSections.{request_opens}
use Rattle.wt_inspection.specs.declared.items.Inspecting.{Inspecting}
use Rattle.wt_inspection.specs.declared.reading.Recorded.{Recorded}
use Rattle.wt_inspection.specs.declared.reading.Recorded.TheVariants as recorded-is
use Rattle.wt_inspection_model.specs.declared.item.Content.{Content}
use Rattle.wt_inspection_model.specs.declared.item.Content.TheVariants as content-is
use Rattle.wt_inspection_model.specs.declared.item.Parts.{Parts}
use Rattle.wt_inspection_model.specs.declared.item.Parts.TheVariants as parts-is
use Rattle.wt_inspection_model.specs.declared.item.settings.SettingLine.{SettingLine}
use Rattle.wt_inspect_connection.specs.Lists.{has_opened, is_bidirectional}
use Rattle.wt_inspect_connection.specs.Parts.{is_same_group}
use Rattle.wt_inspect_connection.specs.Pieces.{part_of, purpose_in, session_ids, stream_for}
use Rattle.wt_inspect_connection.specs.declared.list.Channel.{Channel}
use Rattle.wt_inspect_connection.specs.declared.list.Channel.TheVariants as channel-is
use Rattle.wt_inspect_connection.specs.declared.list.Sender.{Sender}
use Rattle.wt_inspect_connection.specs.declared.list.Sender.TheVariants as sender-is
use Rattle.wt_inspect_connection.specs.declared.part.Group.{Group}
use Rattle.wt_inspect_connection.specs.declared.part.Part.{Part}
use Rattle.wt_inspect_connection.specs.declared.piece.Piece.{Piece}
use Rattle.wt_inspect_connection.specs.declared.purpose.Purpose.{Purpose}
use Rattle.wt_inspect_connection.specs.declared.purpose.Purpose.TheVariants as purpose-is
use Rattle.wt_inspect.specs.Shown.{IsSent}
use Rattle.wt_inspect.specs.declared.connection.tables.Table.{Table}
use Rattle.wt_inspect.specs.declared.connection.tables.Table.TheVariants as table-is

-- ---- what a piece is read as

-- what the end that did not open a bidirectional stream sent on it: a response, or bytes of an
-- application alone
abbrev pub answer_to : Purpose → Bool → Option Recorded
answer_to purpose-is.Request true = Some recorded-is.SessionResponse
answer_to purpose-is.Request false = Some recorded-is.Response
answer_to _ opens = None

-- what an end sent on a stream of this purpose; the flag says whether a session has its ID
abbrev pub recorded_of : ℕ → Sender → Purpose → Bool → Option Recorded
recorded_of id sender purpose opens =
    if is_bidirectional id
    then (if has_opened sender id then Some recorded-is.Bi else answer_to purpose opens)
    else Some recorded-is.Uni

-- a control stream or one of QPACK, which lasts as long as the connection (RFC 9114, section 6.2.1;
-- RFC 9204, section 4.2)
abbrev pub is_critical : Purpose → Bool
is_critical purpose-is.Control = true
is_critical purpose-is.Encoder = true
is_critical purpose-is.Decoder = true
is_critical _ = false

-- one of the sessions has this ID
abbrev pub is_session : List ℕ → ℕ → Bool
is_session sessions id = list_any (λ (session : ℕ). session == id) sessions

-- what an end sent on a channel of a connection, whose sessions have these IDs
abbrev pub recorded_on : List Piece → List ℕ → Sender → Channel → Option Recorded
recorded_on pieces sessions sender (channel-is.Stream id) =
    recorded_of id sender (purpose_in pieces id) (is_session sessions id)
recorded_on pieces sessions _ channel-is.Datagram = Some recorded-is.Datagram

-- what the stream of a channel is for, if it is one
abbrev pub purpose_on : List Piece → Channel → Option Purpose
purpose_on pieces (channel-is.Stream id) = Some (purpose_in pieces id)
purpose_on pieces channel-is.Datagram = None

abbrev pub is_critical_one : Option Purpose → Bool
is_critical_one (Some purpose) = is_critical purpose
is_critical_one None = false

-- ---- dynamic tables

abbrev pub other_end : Sender → Sender
other_end sender-is.Client = sender-is.Server
other_end sender-is.Server = sender-is.Client

-- the capacity of a table that settings allow; none, if they do not say so (RFC 9204, section 5)
abbrev pub capacity_among : List SettingLine → ℕ
capacity_among [] = 0
capacity_among (setting ∷ rest) = if setting.id == 0x01 then setting.value else capacity_among rest

-- the capacity that a frame with these contents allows, if it has settings
abbrev pub capacity_in_parts : Parts → Option ℕ
capacity_in_parts (parts-is.Settings settings) = Some (capacity_among settings.items)
capacity_in_parts _ = None

abbrev pub capacity_of_content : Content → Option ℕ
capacity_of_content (content-is.Frame frame) = capacity_in_parts frame.parts
capacity_of_content _ = None

-- these are the first items of an input
abbrev pub Begins : Input → List Item → Type 0
Begins input items = (i : Inspecting) × (input_of i ≡ input) × HasGiven items i

-- these are all items of an input
abbrev pub BeginsWhole : Input → List Item → Type 0
BeginsWhole input items =
    (i : Inspecting) × (input_of i ≡ input) × HasGiven items i × IsDone i

-- the capacity that the item after these of an input allows; none is known, if it has no settings
abbrev pub AllowsAfter : Input → List Item → Option ℕ → Type 0
AllowsAfter input given allowed =
    ((next : Item) × Begins input (given ++ next ∷ [])
    × (allowed ≡ capacity_of_content next.content))
    ⊎ (BeginsWhole input given × (allowed ≡ None))

-- the capacity that a control stream with these bytes allows: that of its first frame, which comes
-- after the stream type
abbrev pub AllowsBy : List ℕ → Option ℕ → Type 0
AllowsBy bytes allowed =
    ((head : Item) × AllowsAfter (input_with recorded-is.Uni true bytes None) (head ∷ []) allowed)
    ⊎ (BeginsWhole (input_with recorded-is.Uni true bytes None) [] × (allowed ≡ None))

-- the capacity that may be given: 4096, if none is known
abbrev pub IsCapacity : Option ℕ → ℕ → Type 0
IsCapacity None capacity = capacity ≡ 4096
IsCapacity (Some allowed) capacity = allowed < 2 ^ 60 → capacity ≡ allowed

-- the capacity of a table that an end allows, by its control stream, if that is known
abbrev pub AllowsIn : Option (List ℕ) → ℕ → Type 0
AllowsIn None capacity = capacity ≡ 4096
AllowsIn (Some bytes) capacity =
    (allowed : Option ℕ) × AllowsBy bytes allowed × IsCapacity allowed capacity

-- the same of an end of a connection
abbrev pub Allows : List Piece → Sender → ℕ → Type 0
Allows pieces sender capacity = AllowsIn (stream_for sender purpose-is.Control pieces) capacity

-- a table whose encoder stream has this fault, which is no failed allocation
abbrev pub IsBroken : EncoderStreamError → Table → Type 0
IsBroken fault table = (table ≡ table-is.Broken fault) × (fault ≢ stream-is.Memory)

-- what is known of a table with this limit of the capacity and with this encoder stream
abbrev pub IsTableIn : ℕ → List ℕ → Table → Type 0
IsTableIn capacity bytes (table-is.Known sent) = IsSent bytes capacity sent
IsTableIn capacity bytes (table-is.Broken fault) =
    (entries : Entries) × Breaks (empty_table capacity) (instructions_in bytes) entries fault
IsTableIn capacity bytes table-is.Unknown = ⊥

-- what is known of a table by its encoder stream, if that is known, when the other end of the
-- connection allows its capacity
abbrev pub IsTableOf : List Piece → Sender → Option (List ℕ) → Table → Type 0
IsTableOf pieces _ None table = table ≡ table-is.Unknown
IsTableOf pieces sender (Some bytes) table =
    (capacity : ℕ) × Allows pieces (other_end sender) capacity × IsTableIn capacity bytes table

-- what is known of the table for the field sections that an end of a connection sends
abbrev pub IsTable : List Piece → Sender → Table → Type 0
IsTable pieces sender table =
    IsTableOf pieces sender (stream_for sender purpose-is.Encoder pieces) table

abbrev pub sent_of : Table → Option Sent
sent_of (table-is.Known sent) = Some sent
sent_of _ = None

abbrev pub fault_of : Table → Option EncoderStreamError
fault_of (table-is.Broken fault) = Some fault
fault_of _ = None

-- ---- sessions

-- whether the header section that an item has opens a session, if it has one
abbrev pub opening_of_parts : Parts → Option Bool
opening_of_parts (parts-is.Fields section) =
    Some (request_opens section.fault section.lines.items)
opening_of_parts _ = None

abbrev pub opening_of : Content → Option Bool
opening_of (content-is.Frame frame) = opening_of_parts frame.parts
opening_of _ = None

-- no item has a header section
abbrev pub HaveNoSection : List Item → Type 0
HaveNoSection [] = Unit {0}
HaveNoSection (item ∷ items) = (opening_of item.content ≡ None) × HaveNoSection items

-- whether the first header section of an input opens a session; if it has none, it opens none
abbrev pub OpensBy : Input → Bool → Type 0
OpensBy input opens =
    ((before : List Item) × (item : Item) × HaveNoSection before
    × Begins input (before ++ item ∷ []) × (opening_of item.content ≡ Some opens))
    ⊎ ((items : List Item) × HaveNoSection items × BeginsWhole input items × (opens ≡ false))

-- the IDs of the sessions of a connection: those that its streams and datagrams name, and others
abbrev pub AreSessions : List Piece → List ℕ → Type 0
AreSessions pieces ids = (opened : List ℕ) × (ids ≡ session_ids pieces pieces ++ opened)

-- ---- parts

-- a session has the ID of the stream of this channel
abbrev pub opens_on : List ℕ → Channel → Bool
opens_on sessions (channel-is.Stream id) = is_session sessions id
opens_on sessions channel-is.Datagram = false

-- the parts of these pieces of a connection, the first of which has this place in its list
abbrev pub parts_from : ℕ → List Piece → List ℕ → List Piece → List Part
parts_from index all sessions [] = []
parts_from index all sessions (piece ∷ pieces) =
    part_of all index piece (opens_on sessions piece.entry.channel)
    ∷ parts_from (suc index) all sessions pieces

-- a group is not the one before
abbrev pub is_new : Option Group → Group → Bool
is_new None group = true
is_new (Some before) group = not (is_same_group before group)

-- the status of two parts: 2, if one of them has it
abbrev pub worse : ℕ → ℕ → ℕ
worse one other = if one == 2 then 2 else other
