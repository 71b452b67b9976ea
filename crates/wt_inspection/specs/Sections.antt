-- Field sections, line by line (RFC 9204, section 4.5).
use Rattle.std.specs.Prelude.{◌≡◌, ◌⊎◌, ◌&&◌, ℕ, ◌<◌, nat_lt, not, if◌then◌else◌, Bool, true, false, List, [], ◌∷◌, length, map, Option, Some, None, Result, Ok, Err}
use Rattle.wtp_qpack.specs.declared.qpack.DecodingError.{DecodingError}
use Rattle.wtp_qpack.specs.Field.{Field}
use Rattle.wtp_qpack.specs.FieldLine.{bit}
use Rattle.wtp_qpack.specs.Integer.{integer_at}
use Rattle.wtp_qpack.specs.StringLiteral.{octets_at}
use Rattle.wtp_dynamic.specs.declared.error.SectionError.{SectionError}
use Rattle.wtp_dynamic.specs.declared.error.SectionError.TheVariants.{UnexpectedEnd}
use Rattle.wtp_dynamic.specs.Chain.{◌>>=◌}
use Rattle.wtp_dynamic.specs.Faults.{of_section}
use Rattle.wtp_dynamic.specs.Section.{Prefix, prefix_at, is_blocked, table_line_at}
use Rattle.wtp_dynamic.specs.Table.{Table, empty_table, insert_count}
use Rattle.wt_inspection_model.specs.declared.item.fields.FieldSection.{FieldSection}
use Rattle.wt_inspection_model.specs.declared.item.fields.Index.{Index}
use Rattle.wt_inspection_model.specs.declared.item.fields.Index.TheVariants.{Relative, PostBase}
use Rattle.wt_inspection_model.specs.declared.item.fields.Line.{Line}
use Rattle.wt_inspection_model.specs.declared.item.fields.SectionFault.{SectionFault}
use Rattle.wt_inspection_model.specs.declared.item.fields.SectionFault.TheVariants.{NeedsDynamicTable}
use Rattle.wt_inspection_model.specs.declared.item.fields.SectionFault.TheVariants.{NeedsInsertions, Malformed}
use Rattle.wt_inspection_model.specs.declared.item.fields.Unknown.{Unknown}
use Rattle.wt_inspection_model.specs.declared.item.fields.Unknown.TheVariants as unknown-is
use Rattle.wt_inspection.specs.Insertions.{Sent, IsTableAt, latest}

-- ---- lines

-- what is unknown of a line, and its name and value as far as they are known
abbrev pub Shown : Type 0
Shown = Option Unknown × Field

abbrev pub shown_of : Line → Shown
shown_of line = (line.unknown, (line.name.items, line.value.items))

-- the line at the start of bytes, and the bytes after it
abbrev pub Reader : Type 0
Reader = List ℕ → Result (Shown × List ℕ) SectionError

-- the line of which all is known
abbrev pub known : Result (Field × List ℕ) SectionError → Result (Shown × List ℕ) SectionError
known (Ok line) = Ok ((None, line.0), line.1)
known (Err cause) = Err cause

-- ---- lines that refer to the dynamic table, without the table

-- by its first four bits, the highest first, a line refers to the dynamic table (sections 4.5.2 to
-- 4.5.5)
abbrev pub refers_by : (a b c d : Bool) → Bool
refers_by true t _ _ = not t
refers_by false true _ t = not t
refers_by false false true _ = false
refers_by false false false _ = true

unfoldable pub refers : List ℕ → Bool
refers [] = false
refers (first ∷ bytes) = refers_by (bit 7 first) (bit 6 first) (bit 5 first) (bit 4 first)

-- an index that counts on from the Base, or back from it
abbrev pub index_of : Bool → ℕ → Index
index_of true index = PostBase index
index_of false index = Relative index

-- the field of an entry, by an index with n bits
unfoldable pub entry_line_at : Bool → ℕ → Reader
entry_line_at is_on n bytes = do
  index ← of_section (integer_at n bytes)
  Ok ((Some (unknown-is.Field (index_of is_on index.0)), ([], [])), index.1)

-- the name of an entry, by an index with n bits, and a value
unfoldable pub entry_name_at : Bool → ℕ → Reader
entry_name_at is_on n bytes = do
  index ← of_section (integer_at n bytes)
  value ← of_section (octets_at 7 index.1)
  Ok ((Some (unknown-is.Name (index_of is_on index.0)), ([], value.0)), value.1)

-- the line by three of its first bits
abbrev pub reference_by : (a b d : Bool) → Reader
-- 10 (section 4.5.2)
reference_by true _ _ bytes = entry_line_at false 6 bytes
-- 01N0 (section 4.5.4)
reference_by false true _ bytes = entry_name_at false 4 bytes
-- 0001 (section 4.5.3)
reference_by false false true bytes = entry_line_at true 4 bytes
-- 0000N (section 4.5.5)
reference_by false false false bytes = entry_name_at true 3 bytes

unfoldable pub reference_at : Reader
reference_at [] = Err UnexpectedEnd
reference_at (first ∷ bytes) =
    reference_by (bit 7 first) (bit 6 first) (bit 4 first) (first ∷ bytes)

-- ---- all lines

-- the line at the start; if the table is not known, entries of the dynamic table are not
abbrev pub line_at : Bool → Table → Prefix → Reader
line_at is_known table prefix bytes =
    if not is_known && refers bytes then reference_at bytes
    else known (table_line_at table prefix bytes)

-- the bytes start with these lines, one after the other, followed by the rest
abbrev pub AreLines : Reader → List ℕ → List Shown → List ℕ → Type 0
AreLines read bytes [] rest = bytes ≡ rest
AreLines read bytes (line ∷ lines) rest =
    (behind : List ℕ) × (read bytes ≡ Ok (line, behind)) × AreLines read behind lines rest

-- the lines end here: there are no more bytes, and this is said of the lines; or the next line has
-- a fault
abbrev pub EndsLines : Reader → Option SectionFault → List ℕ → Option SectionFault → Type 0
EndsLines read whole rest fault =
    ((rest ≡ []) × (fault ≡ whole))
    ⊎ ((cause : SectionError) × (0 < length rest) × (read rest ≡ Err cause)
    × (fault ≡ Some (Malformed cause)))

-- the bytes start with these lines, after which they end so
abbrev pub HasLines : Reader → Option SectionFault → List ℕ → List Line → Option SectionFault
    → Type 0
HasLines read whole bytes lines fault =
    (rest : List ℕ) × AreLines read bytes (map shown_of lines) rest × EndsLines read whole rest fault

-- ---- sections

-- the lines of a section, and what is missing of them or wrong with them
abbrev pub Found : Type 0
Found = List Line × Option SectionFault

-- the lines of a section after a prefix, whose entries are in a table, if it is known; this is said
-- of them if they are whole
abbrev pub ShowsLines : Bool → Table → Prefix → Option SectionFault → Found → Type 0
ShowsLines is_known table prefix whole found =
    HasLines (line_at is_known table prefix) whole prefix.lines found.0 found.1

-- the prefix has a fault
abbrev pub HasNoLines : SectionError → Found → Type 0
HasNoLines cause found = (found.0 ≡ []) × (found.1 ≡ Some (Malformed cause))

-- the number that was read, if one was
abbrev pub number_of : Result (ℕ × List ℕ) DecodingError → Option ℕ
number_of (Ok found) = Some found.0
number_of (Err cause) = None

-- the Required Insert Count as it is encoded (section 4.5.1.1), if it can be decoded
abbrev pub insert_count_of : List ℕ → Option ℕ
insert_count_of bytes = number_of (integer_at 8 bytes)

-- without a table: the count is not 0
abbrev pub needs_table : Option ℕ → Bool
needs_table None = false
needs_table (Some count) = nat_lt 0 count

-- the bytes after a prefix of which only the integers are read
unfoldable pub after_integers : List ℕ → Result (List ℕ) SectionError
after_integers bytes = do
  count ← of_section (integer_at 8 bytes)
  delta ← of_section (integer_at 7 count.1)
  Ok delta.1

-- a prefix before these lines that means nothing
abbrev pub no_prefix : List ℕ → Prefix
no_prefix lines = record { required = 0; base = 0; lines = lines }

-- a section that needs a table, and there is none
abbrev pub IsBare : Result (List ℕ) SectionError → Found → Type 0
IsBare (Ok lines) found =
    ShowsLines false (empty_table 0) (no_prefix lines) (Some NeedsDynamicTable) found
IsBare (Err cause) found = HasNoLines cause found

-- a section that needs none
abbrev pub IsPlain : Result Prefix SectionError → Found → Type 0
IsPlain (Ok prefix) found = ShowsLines true (empty_table 0) prefix None found
IsPlain (Err cause) found = HasNoLines cause found

-- a section without an encoder stream, which needs a table or not
abbrev pub IsAlone : Bool → List ℕ → Found → Type 0
IsAlone true bytes found = IsBare (after_integers bytes) found
IsAlone false bytes found = IsPlain (prefix_at (empty_table 0) bytes) found

-- a section with an encoder stream, which has too few insertions for it or not: it is read with the
-- table as it is once all insertions that it needs are there
abbrev pub IsOpened : Bool → Sent → Prefix → Found → Type 0
IsOpened true sent prefix found =
    ShowsLines false sent.table prefix
    (Some (NeedsInsertions prefix.required (insert_count sent.table))) found
IsOpened false sent prefix found =
    (table : Table) × IsTableAt sent.limit sent.bytes prefix.required table
    × ShowsLines true table prefix None found

-- the prefix was read with the table after the whole stream
abbrev pub IsSent : Sent → Result Prefix SectionError → Found → Type 0
IsSent sent (Ok prefix) found =
    let last = latest sent.table prefix in IsOpened (is_blocked sent.table last) sent last found
IsSent sent (Err cause) found = HasNoLines cause found

abbrev pub IsSectionBy : Option Sent → List ℕ → Found → Type 0
IsSectionBy None bytes found = IsAlone (needs_table (insert_count_of bytes)) bytes found
IsSectionBy (Some sent) bytes found = IsSent sent (prefix_at sent.table bytes) found

-- the bytes are this section, read with an encoder stream if there is one
abbrev pub IsSectionWith : Option Sent → List ℕ → FieldSection → Type 0
IsSectionWith sent bytes section =
    (section.insert_count ≡ insert_count_of bytes)
    × IsSectionBy sent bytes (section.lines.items, section.fault)

-- the same with some encoder stream, or with none
abbrev pub IsSection : List ℕ → FieldSection → Type 0
IsSection bytes section = (sent : Option Sent) × IsSectionWith sent bytes section
