-- The number of lines in the text of an inspection, and what the lines of a field and of a reason
-- have.
use Rattle.std.specs.Prelude.{◌≡◌, ℕ, ◌+◌, ◌-◌, ◌/◌, Bool, if◌then◌else◌, List, [], length}
use Rattle.std.specs.Prelude.{◌++◌, take, drop, nat_le, sum_by, Option, Some, None, codes, decimal}
use Rattle.std.specs.Prelude.{string_bytes}
use Rattle.wtp_wire.specs.declared.frame.kind.FrameKind.TheVariants as kind-is
use Rattle.wt_inspection_model.specs.declared.item.Content.{Content}
use Rattle.wt_inspection_model.specs.declared.item.Content.TheVariants as content-is
use Rattle.wt_inspection_model.specs.declared.item.DatagramHead.{DatagramHead}
use Rattle.wt_inspection_model.specs.declared.item.FrameItem.{FrameItem}
use Rattle.wt_inspection_model.specs.declared.item.Inspection.{Inspection}
use Rattle.wt_inspection_model.specs.declared.item.Item.{Item}
use Rattle.wt_inspection_model.specs.declared.item.Parts.{Parts}
use Rattle.wt_inspection_model.specs.declared.item.Parts.TheVariants as parts-is
use Rattle.wt_inspection_model.specs.declared.item.Signal.{Signal}
use Rattle.wt_inspection_model.specs.declared.item.Signal.TheVariants as signal-is
use Rattle.wt_inspection_model.specs.declared.item.capsule.CapsuleItem.{CapsuleItem}
use Rattle.wt_inspection_model.specs.declared.item.capsule.CloseReason.{CloseReason}
use Rattle.wt_inspection_model.specs.declared.item.capsule.FlowLimit.{FlowLimit}
use Rattle.wt_inspection_model.specs.declared.item.capsule.FlowLimit.TheVariants as limit-is
use Rattle.wt_inspection_model.specs.declared.item.ending.Warning.{Warning}
use Rattle.wt_inspection_model.specs.declared.item.fields.FieldSection.{FieldSection}
use Rattle.wt_inspection_model.specs.declared.item.fields.Index.{Index}
use Rattle.wt_inspection_model.specs.declared.item.fields.Index.TheVariants.{Relative, PostBase}
use Rattle.wt_inspection_model.specs.declared.item.fields.Line.{Line}
use Rattle.wt_inspection_model.specs.declared.item.fields.Unknown.{Unknown}
use Rattle.wt_inspection_model.specs.declared.item.fields.Unknown.TheVariants as unknown-is
use Rattle.wt_inspection_model.specs.declared.item.fields.SectionFault.{SectionFault}
use Rattle.wt_inspection_model.specs.declared.item.instruction.Instruction.{Instruction}
use Rattle.wt_inspection_model.specs.declared.item.instruction.Instruction.TheVariants as instruction-is
use Rattle.std.specs.List.{flat_map}
use Rattle.wt_inspection_views.specs.Escaped.{IsShown, name_byte}
use Rattle.wt_inspection_model.specs.declared.item.names.FrameName.{FrameName}
use Rattle.wt_inspection_model.specs.declared.item.names.FrameName.TheVariants as name-is

-- the number of lines for the error that ends a field section: one, or none without an error
abbrev pub stop_lines : Option SectionFault → ℕ
stop_lines None = 0
stop_lines (Some fault) = 1

-- the number of lines for a field section: one per field, and one for an error
abbrev pub field_lines : FieldSection → ℕ
field_lines section = length section.lines.items + stop_lines section.fault

-- the number of lines for the error code and reason of a close
abbrev pub close_lines : Option CloseReason → ℕ
close_lines None = 0
close_lines (Some close) = 2

-- the number of lines for a limit of flow control, and for the stream that it is of
abbrev pub limit_lines : Option FlowLimit → ℕ
limit_lines None = 0
limit_lines (Some (limit-is.Session limit)) = 1
limit_lines (Some (limit-is.Stream stream limit)) = 2

-- the number of lines for a capsule, its close and its limit
abbrev pub capsule_lines : CapsuleItem → ℕ
capsule_lines capsule = 1 + close_lines capsule.close + limit_lines capsule.limit

-- the number of lines for what a frame says of requests and pushes
abbrev pub signal_lines : Signal → ℕ
signal_lines (signal-is.Id id) = 1
signal_lines (signal-is.Priority id value) = 2
signal_lines (signal-is.Promise id section) = 1 + field_lines section

-- the number of lines for the contents of a frame payload
abbrev pub parts_lines : Parts → ℕ
parts_lines parts-is.Opaque = 0
parts_lines (parts-is.Fields section) = field_lines section
parts_lines (parts-is.Settings settings) = length settings.items
parts_lines (parts-is.Capsules capsules) = sum_by capsule_lines capsules.items
parts_lines (parts-is.Signal signal) = signal_lines signal

-- the number of lines for an instruction: one, and one for the entry that it inserts
abbrev pub instruction_lines : Instruction → ℕ
instruction_lines (instruction-is.InsertStatic index line) = 2
instruction_lines (instruction-is.InsertDynamic line) = 2
instruction_lines (instruction-is.InsertLiteral line) = 2
instruction_lines (instruction-is.Duplicate line) = 2
instruction_lines other = 1

-- the number of lines for an item without its payload bytes
abbrev pub content_lines : Content → ℕ
content_lines (content-is.Frame frame) = 1 + parts_lines frame.parts
content_lines (content-is.Capsule capsule) = capsule_lines capsule
content_lines (content-is.Section section) = 1 + field_lines section
content_lines (content-is.Settings settings) = 1 + length settings.items
content_lines (content-is.Instruction instruction) = instruction_lines instruction
content_lines other = 1

-- the number of lines for a payload of n bytes, at 32 bytes per line
abbrev pub hex_lines : ℕ → ℕ
hex_lines n = (n + 31) / 32

-- the n bytes at an offset, or no bytes if fewer are present
abbrev pub bytes_at : List ℕ → ℕ → ℕ → List ℕ
bytes_at bytes at n = if nat_le (at + n) (length bytes) then take n (drop at bytes) else []

-- the payload of a datagram in an item
abbrev pub datagram_payload : List ℕ → Item → DatagramHead → List ℕ
datagram_payload bytes item head =
    if nat_le head.payload item.length
    then bytes_at bytes (item.at + (item.length - head.payload)) head.payload else []

-- the payload of a DATA frame; no bytes for other frames
abbrev pub data_payload : List ℕ → Item → FrameItem → FrameName → List ℕ
data_payload bytes item frame (name-is.Read kind-is.Data) =
    bytes_at bytes (item.at + frame.head) frame.present
data_payload bytes item frame other = []

-- the application data in an item
abbrev pub payload_of : List ℕ → Item → Content → List ℕ
payload_of bytes item content-is.Payload = bytes_at bytes item.at item.length
payload_of bytes item (content-is.Datagram head) = datagram_payload bytes item head
payload_of bytes item (content-is.Frame frame) = data_payload bytes item frame frame.name
payload_of bytes item other = []

-- the bytes of an item that are displayed: its application data, if the flag is set
abbrev pub shown_of : Bool → List ℕ → Item → List ℕ
shown_of payload bytes item = if payload then payload_of bytes item item.content else []

-- the number of lines for an item, with its displayed bytes
abbrev pub item_lines : Bool → List ℕ → Item → ℕ
item_lines payload bytes item =
    content_lines item.content + hex_lines (length (shown_of payload bytes item))

-- the number of lines for items and warnings
abbrev pub lines_of : Bool → List ℕ → List Item → List Warning → ℕ
lines_of payload bytes items warnings =
    sum_by (item_lines payload bytes) items + length warnings

-- the number of lines for an inspection: its items, its warnings, and one for how the input ends
abbrev pub inspection_lines : Bool → List ℕ → Inspection → ℕ
inspection_lines payload bytes inspection =
    lines_of payload bytes inspection.items.items inspection.warnings.items + 1

-- the line of a priority has its displayed form
abbrev pub IsPriorityLine : List ℕ → List ℕ → Type 0
IsPriorityLine value words =
    (shown : List ℕ) × IsShown value shown × (words ≡ codes "        priority = " ++ shown)

-- the line of a field that is known has its name in ASCII and without blanks, and the displayed form of its value
abbrev pub IsKnownLine : Line → List ℕ → Type 0
IsKnownLine field words =
    (value : List ℕ) × IsShown field.value.items value
    × (words ≡ codes "        " ++ flat_map name_byte field.name.items ++ codes " = " ++ value)

-- the line of an entry of the dynamic table that is not known has its index
abbrev pub entry_words : Index → List ℕ
entry_words (Relative index) = codes "        (dynamic " ++ decimal index ++ codes ")"
entry_words (PostBase index) = codes "        (dynamic post-base " ++ decimal index ++ codes ")"

-- the line of the name of such an entry has the displayed form of the value too
abbrev pub IsNamedLine : Index → List ℕ → List ℕ → Type 0
IsNamedLine index text words =
    (value : List ℕ) × IsShown text value × (words ≡ entry_words index ++ codes " = " ++ value)

-- by what is unknown of a field
abbrev pub IsLineBy : Option Unknown → Line → List ℕ → Type 0
IsLineBy None field words = IsKnownLine field words
IsLineBy (Some (unknown-is.Field index)) field words = words ≡ entry_words index
IsLineBy (Some (unknown-is.Name index)) field words = IsNamedLine index field.value.items words

-- the line of a field
abbrev pub IsFieldLine : Line → List ℕ → Type 0
IsFieldLine field words = IsLineBy field.unknown field words

-- the line of the reason of a close has the displayed form of its text
abbrev pub IsReasonLine : CloseReason → List ℕ → Type 0
IsReasonLine close words =
    (reason : List ℕ) × IsShown (string_bytes close.reason) reason
    × (words ≡ codes "            reason = " ++ reason)
