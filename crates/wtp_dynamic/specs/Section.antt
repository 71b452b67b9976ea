-- Field sections with the dynamic table (RFC 9204, section 4.5).
use Rattle.std.specs.Prelude.{◌≡◌, ℕ, ◌+◌, ◌-◌, ◌^◌, nat_lt, nat_le, if◌then◌else◌, Bool, true, false, ◌||◌, List, [], ◌∷◌, Option, Some, None, Result, Ok, Err}
use Rattle.wtp_qpack.specs.Field.{Field}
use Rattle.wtp_qpack.specs.Integer.{integer_at}
use Rattle.wtp_qpack.specs.StaticTable as static
use Rattle.wtp_qpack.specs.StringLiteral.{flag_above}
use Rattle.wtp_qpack.specs.FieldLine.{bit}
use Rattle.wtp_qpack.specs.StringLiteral.{octets_at}
use Rattle.wtp_dynamic.specs.declared.error.SectionError.{SectionError}
use Rattle.wtp_dynamic.specs.declared.error.SectionError.TheVariants.{UnexpectedEnd, IntegerOverflow, IndexNotFound, EntryNotFound, InvalidInsertCount, NegativeBase}
use Rattle.wtp_dynamic.specs.declared.section.Reference.{Reference}
use Rattle.wtp_dynamic.specs.declared.section.Reference.TheVariants.{Static, Back, On}
use Rattle.wtp_dynamic.specs.Chain.{◌>>=◌, or_fault}
use Rattle.wtp_dynamic.specs.Faults.{of_section}
use Rattle.wtp_qpack.specs.StringLiteral.{is_coded}
use Rattle.wtp_dynamic.specs.Table.{Table, insert_count, entry_of}
use Rattle.wtp_dynamic.specs.InsertCount.{most_entries, count_of}

-- ---- the prefix (section 4.5.1)

-- the Required Insert Count, the Base, and the bytes of the lines
pub record Prefix : Type 0 where
  pub required : ℕ
  pub base : ℕ
  pub lines : List ℕ

-- the Base by the sign and the Delta Base (section 4.5.1.2)
abbrev pub base_of : Bool → ℕ → ℕ → Result ℕ SectionError
base_of true required delta =
    if nat_lt delta required then Ok (required - delta - 1) else Err NegativeBase
base_of false required delta =
    if nat_le (2 ^ 64) (required + delta) then Err IntegerOverflow else Ok (required + delta)

-- the Required Insert Count of an encoded number
abbrev pub required_by : Table → ℕ → Result ℕ SectionError
required_by table encoded =
    or_fault InvalidInsertCount (count_of (most_entries table.limit) (insert_count table) encoded)

-- the prefix at the start of a section, read with a table
unfoldable pub prefix_at : Table → List ℕ → Result Prefix SectionError
prefix_at table bytes = do
  count ← of_section (integer_at 8 bytes)
  required ← required_by table count.0
  delta ← of_section (integer_at 7 count.1)
  base ← base_of (flag_above 7 count.1) required delta.0
  Ok (record { required = required; base = base; lines = delta.1 })

-- a section has to wait for insertions (section 2.1.2)
abbrev pub is_blocked : Table → Prefix → Bool
is_blocked table prefix = nat_lt (insert_count table) prefix.required

-- ---- entries

-- the absolute index that counts back from the Base, if it is not negative
abbrev pub place_back : ℕ → ℕ → Option ℕ
place_back base index = if nat_lt index base then Some (base - 1 - index) else None

-- the entry of an absolute index, which is below the Required Insert Count and live
abbrev pub reached : Table → ℕ → Option ℕ → Option Field
reached table required None = None
reached table required (Some place) =
    if nat_lt place required then entry_of table place else None

-- the entry of an index: of the static table, or of the dynamic table back from the Base or on from
-- it
abbrev pub entry_at : Reference → Table → Prefix → ℕ → Result Field SectionError
entry_at Static table prefix index = or_fault IndexNotFound (static.entry_at index)
entry_at Back table prefix index =
    or_fault EntryNotFound (reached table prefix.required (place_back prefix.base index))
entry_at On table prefix index =
    or_fault EntryNotFound (reached table prefix.required (Some (prefix.base + index)))

-- ---- the lines

-- the line at the start of bytes, and the bytes after it
abbrev pub Lines : Type 0
Lines = List ℕ → Result (Field × List ℕ) SectionError

-- the entry of an index with n bits
unfoldable pub entry_line_at : Reference → ℕ → Table → Prefix → Lines
entry_line_at reference n table prefix bytes = do
  index ← of_section (integer_at n bytes)
  entry ← entry_at reference table prefix index.0
  Ok (entry, index.1)

-- the name of the entry of an index with n bits, and a value
unfoldable pub name_line_at : Reference → ℕ → Table → Prefix → Lines
name_line_at reference n table prefix bytes = do
  entry ← entry_line_at reference n table prefix bytes
  value ← of_section (octets_at 7 entry.1)
  Ok ((entry.0.0, value.0), value.1)

-- a name and a value
unfoldable pub literal_line_at : Lines
literal_line_at bytes = do
  name ← of_section (octets_at 3 bytes)
  value ← of_section (octets_at 7 name.1)
  Ok ((name.0, value.0), value.1)

-- the table that the bit T refers to
abbrev pub reference_of : Bool → Reference
reference_of true = Static
reference_of false = Back

-- the line by its first four bits, the highest first
abbrev pub line_by : (a b c d : Bool) → Table → Prefix → Lines
-- 1T (section 4.5.2)
line_by true t _ _ table prefix bytes = entry_line_at (reference_of t) 6 table prefix bytes
-- 01NT (section 4.5.4)
line_by false true _ t table prefix bytes = name_line_at (reference_of t) 4 table prefix bytes
-- 001N (section 4.5.6)
line_by false false true _ table prefix bytes = literal_line_at bytes
-- 0001 (section 4.5.3)
line_by false false false true table prefix bytes = entry_line_at On 4 table prefix bytes
-- 0000N (section 4.5.5)
line_by false false false false table prefix bytes = name_line_at On 3 table prefix bytes

unfoldable pub table_line_at : Table → Prefix → Lines
table_line_at table prefix [] = Err UnexpectedEnd
table_line_at table prefix (first ∷ bytes) =
    line_by (bit 7 first) (bit 6 first) (bit 5 first) (bit 4 first) table prefix (first ∷ bytes)

-- the bytes start with these lines, one after the other, followed by the rest
abbrev pub AreTableLines : Table → Prefix → List ℕ → List Field → List ℕ → Type 0
AreTableLines table prefix bytes [] rest = bytes ≡ rest
AreTableLines table prefix bytes (line ∷ lines) rest =
    (behind : List ℕ) × (table_line_at table prefix bytes ≡ Ok (line, behind))
    × AreTableLines table prefix behind lines rest

-- ---- the bit N (section 7.1.3)

-- by the first five bits of a line, the highest first; lines of an index have none
abbrev pub never_by : (a b c d e : Bool) → Bool
never_by true _ _ _ _ = false
never_by false true n _ _ = n
never_by false false true n _ = n
never_by false false false true _ = false
never_by false false false false n = n

-- the line at the start is never indexed
unfoldable pub is_never : List ℕ → Bool
is_never [] = false
is_never (first ∷ bytes) =
    never_by (bit 7 first) (bit 6 first) (bit 5 first) (bit 4 first) (bit 3 first)

-- ---- lines that are decoded

-- the value begins after what was read of the line, and is Huffman text
abbrev pub value_is_coded : {X E : Type 0} → Result (X × List ℕ) E → Bool
value_is_coded (Ok before) = is_coded 7 before.1
value_is_coded (Err fault) = false

-- a line with these first four bits has Huffman text, before which it has no fault
abbrev pub coded_by : (a b c d : Bool) → Table → Prefix → List ℕ → Bool
coded_by true _ _ _ table prefix bytes = false
coded_by false true _ t table prefix bytes =
    value_is_coded (entry_line_at (reference_of t) 4 table prefix bytes)
coded_by false false true _ table prefix bytes =
    is_coded 3 bytes || value_is_coded (octets_at 3 bytes)
coded_by false false false true table prefix bytes = false
coded_by false false false false table prefix bytes =
    value_is_coded (entry_line_at On 3 table prefix bytes)

-- the line at the start has Huffman text, before which it has no fault
unfoldable pub is_coded_line : Table → Prefix → List ℕ → Bool
is_coded_line table prefix [] = false
is_coded_line table prefix (first ∷ bytes) =
    coded_by (bit 7 first) (bit 6 first) (bit 5 first) (bit 4 first) table prefix (first ∷ bytes)
