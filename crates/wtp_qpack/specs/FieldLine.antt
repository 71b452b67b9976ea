-- Field lines (RFC 9204, sections 4.5.2 to 4.5.6).
use Rattle.std.specs.Prelude.{◌≡◌, ◌⊎◌, ℕ, ◌/◌, ◌%◌, ◌^◌, ◌==◌, if◌then◌else◌, Bool, true, false}
use Rattle.std.specs.Prelude.{IsTrue, List, [], ◌∷◌, ◌++◌, ◌||◌, take, drop, Option, Some, None}
use Rattle.std.specs.Prelude.{Result, Ok, Err, string_bytes}
use Rattle.std.specs.Str.{bytes_eq}
use Rattle.wtp_qpack.specs.declared.qpack.DecodingError.{DecodingError}
use Rattle.wtp_qpack.specs.declared.qpack.DecodingError.TheVariants.{UnexpectedFin}
use Rattle.wtp_qpack.specs.declared.qpack.DecodingError.TheVariants.{DynamicNotSupported}
use Rattle.wtp_qpack.specs.declared.qpack.DecodingError.TheVariants.{IndexNotfound}
use Rattle.wtp_qpack.specs.declared.qpack.field_line.Line.{Line}
use Rattle.wtp_qpack.specs.declared.qpack.field_line.Parts.{Parts}
use Rattle.wtp_qpack.specs.declared.qpack.field_line.Table.{Table}
use Rattle.wtp_qpack.specs.declared.qpack.field_line.Table.TheVariants.{Static, Dynamic}
use Rattle.wtp_qpack.specs.declared.qpack.field_line.Representation.{Representation}
use Rattle.wtp_qpack.specs.declared.qpack.field_line.Representation.TheVariants.{Indexed}
use Rattle.wtp_qpack.specs.declared.qpack.field_line.Representation.TheVariants.{IndexedPostBase}
use Rattle.wtp_qpack.specs.declared.qpack.field_line.Representation.TheVariants.{NameReference}
use Rattle.wtp_qpack.specs.declared.qpack.field_line.Representation.TheVariants.{PostBaseNameReference}
use Rattle.wtp_qpack.specs.declared.qpack.field_line.Representation.TheVariants.{LiteralName}
use Rattle.wtp_qpack.specs.declared.qpack.string_literal.Texts.{Texts}
use Rattle.wtp_qpack.specs.declared.qpack.string_literal.Texts.TheVariants.{Utf8}
use Rattle.wtp_qpack.specs.Field.{Field}
use Rattle.wtp_qpack.specs.Qpack.{GivesUnlessMemory, ◌>>=◌}
use Rattle.wtp_qpack.specs.Integer.{integer_at, shortest_int}
use Rattle.wtp_qpack.specs.Sensitive.{is_sensitive}
use Rattle.wtp_qpack.specs.StaticTable.{entry_at, first_entry, exact_entry}
use Rattle.wtp_qpack.specs.StringLiteral.{string_in, is_coded, text_in, encoded_string}

-- the bit at a position of a byte, the lowest at 0
abbrev pub bit : ℕ → ℕ → Bool
bit place byte = byte / 2 ^ place % 2 == 1

-- the table that the bit T refers to
abbrev pub table_of : Bool → Table
table_of true = Static
table_of false = Dynamic

-- the representation of a line by its first four bits, the highest first
abbrev pub by_bits : Bool → Bool → Bool → Bool → Representation
by_bits true t _ _ = Indexed (table_of t)  -- 1T, section 4.5.2
by_bits false false false true = IndexedPostBase  -- 0001, section 4.5.3
by_bits false true n t = NameReference (table_of t)  -- 01NT, section 4.5.4
by_bits false false false false = PostBaseNameReference  -- 0000, section 4.5.5
by_bits false false true n = LiteralName  -- 001N, section 4.5.6

abbrev pub representation_of : ℕ → Representation
representation_of first = by_bits (bit 7 first) (bit 6 first) (bit 5 first) (bit 4 first)

-- ---- reading: the field and the bytes after it, or the first fault

-- the entry of the static table, if there is one
abbrev pub or_not_found : Option Field → Result Field DecodingError
or_not_found None = Err IndexNotfound
or_not_found (Some entry) = Ok entry

-- an index with prefix 6, the whole entry
unfoldable pub indexed_at : List ℕ → Result (Field × List ℕ) DecodingError
indexed_at bytes = do
  index ← integer_at 6 bytes
  entry ← or_not_found (entry_at index.0)
  Ok (entry, index.1)

-- the line at the start of bytes
abbrev pub Lines : Type 0
Lines = List ℕ → Result (Field × List ℕ) DecodingError

-- an index with prefix 4, the name of the entry; and a value
unfoldable pub name_reference_in : Texts → Lines
name_reference_in texts bytes = do
  index ← integer_at 4 bytes
  entry ← or_not_found (entry_at index.0)
  value ← string_in texts 7 index.1
  Ok ((entry.0, value.0), value.1)

-- a name and a value
unfoldable pub literal_name_in : Texts → Lines
literal_name_in texts bytes = do
  name ← string_in texts 3 bytes
  value ← string_in texts 7 name.1
  Ok ((name.0, value.0), value.1)

-- a line that needs the dynamic table is refused before more of it is read
abbrev pub line_by : Texts → Representation → Lines
line_by texts (Indexed Static) bytes = indexed_at bytes
line_by texts (Indexed Dynamic) bytes = Err DynamicNotSupported
line_by texts IndexedPostBase bytes = Err DynamicNotSupported
line_by texts (NameReference Static) bytes = name_reference_in texts bytes
line_by texts (NameReference Dynamic) bytes = Err DynamicNotSupported
line_by texts PostBaseNameReference bytes = Err DynamicNotSupported
line_by texts LiteralName bytes = literal_name_in texts bytes

-- the line at the start, whose strings are such texts
unfoldable pub line_in : Texts → Lines
line_in texts [] = Err UnexpectedFin
line_in texts (first ∷ bytes) = line_by texts (representation_of first) (first ∷ bytes)

-- the line at the start
abbrev pub line_at : Lines
line_at = line_in Utf8

-- ---- lines with Huffman text

-- the value begins after what was read of the line, and is Huffman text
abbrev pub value_is_coded : {X : Type 0} → Result (X × List ℕ) DecodingError → Bool
value_is_coded (Ok before) = is_coded 7 before.1
value_is_coded (Err fault) = false

-- the entry of an index with prefix 4
abbrev pub named_entry_at : Lines
named_entry_at bytes = do
  index ← integer_at 4 bytes
  entry ← or_not_found (entry_at index.0)
  Ok (entry, index.1)

-- a line of this representation has Huffman text, before which it has no fault
abbrev pub has_coded : Texts → Representation → List ℕ → Bool
has_coded texts (NameReference Static) bytes = value_is_coded (named_entry_at bytes)
has_coded texts LiteralName bytes = is_coded 3 bytes || value_is_coded (string_in texts 3 bytes)
has_coded texts _ bytes = false

-- the line at the start has Huffman text, before which it has no fault
unfoldable pub is_coded_in : Texts → List ℕ → Bool
is_coded_in texts [] = false
is_coded_in texts (first ∷ bytes) = has_coded texts (representation_of first) (first ∷ bytes)

-- reading the line at the start as strings can take memory: it has Huffman text, before which it
-- has no fault, or it has no fault at all
abbrev pub NeedsMemory : List ℕ → Type 0
NeedsMemory bytes =
    IsTrue (is_coded_in Utf8 bytes) ⊎ ((line : Field × List ℕ) × (line_at bytes ≡ Ok line))

-- ---- what was read of a line: the field and the bytes after it

abbrev pub line_view : Line → Field × List ℕ
line_view line = ((string_bytes line.name, string_bytes line.value), line.rest.now)

-- the same, with the texts that were decoded in this room
abbrev pub parts_view : List ℕ → Parts → Field × List ℕ
parts_view room parts = (
  (text_in (take parts.middle room) parts.name, text_in (drop parts.middle room) parts.value),
  parts.rest.now,
)

abbrev pub GivesParts :
    List ℕ → Result Parts DecodingError → Result (Field × List ℕ) DecodingError → Type 0
GivesParts room result line = GivesUnlessMemory (parts_view room) result line

-- ---- writing: lines of header maps, which look only at the first entry with the name

abbrev pub has_value : Option Field → List ℕ → Bool
has_value None value = false
has_value (Some entry) value = bytes_eq entry.1 value

-- a line by the index of the name's first static entry, if there is one: 11 and the index, if the
-- entry has the value too; 0101, the index and the value; or 0010, the name and the value
abbrev pub line_of : Option ℕ → Field → List ℕ
line_of (Some index) field =
    if has_value (entry_at index) field.1
    then shortest_int 6 3 index
    else shortest_int 4 5 index ++ encoded_string 7 0 field.1
line_of None field = encoded_string 3 2 field.0 ++ encoded_string 7 0 field.1

unfoldable pub encoded_line : Field → List ℕ
encoded_line field = line_of (first_entry field.0) field

-- ---- writing: lines of field lists, each as short as it can be without the dynamic table

-- A literal, with the bit N if the field is never indexed: 01N1, the index of an entry with the name,
-- and the value (section 4.5.4); or, if there is none, 001N, the name and the value (section 4.5.6).
abbrev pub literal_line : (never : Bool) → Option ℕ → Field → List ℕ
literal_line never (Some index) field =
    shortest_int 4 (if never then 7 else 5) index ++ encoded_string 7 0 field.1
literal_line never None field =
    encoded_string 3 (if never then 3 else 2) field.0 ++ encoded_string 7 0 field.1

-- 11 and the index of the entry that is the field (section 4.5.2); or, if there is none, a literal by
-- the first entry with its name, which is never indexed if the field is sensitive
abbrev pub line_with : Option ℕ → Field → List ℕ
line_with (Some index) field = shortest_int 6 3 index
line_with None field = literal_line (is_sensitive field) (first_entry field.0) field

unfoldable pub shortest_line : Field → List ℕ
shortest_line field = line_with (exact_entry field) field
