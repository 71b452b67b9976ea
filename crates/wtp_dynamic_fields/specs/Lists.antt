-- Field lists of sections that refer to the dynamic table (RFC 9204, section 4.5).
use Rattle.std.specs.Prelude.{◌≡◌, ◌⊎◌, ℕ, ◌+◌, ◌<◌, ◌≤◌, List, [], length, Option, None, Result, Ok, Err, IsTrue}
use Rattle.wtp_qpack.specs.Field.{Field}
use Rattle.wtp_fields.specs.FieldList.{field_size, list_size}
use Rattle.wtp_dynamic.specs.declared.error.SectionError.{SectionError}
use Rattle.wtp_dynamic.specs.declared.error.SectionError.TheVariants as error
use Rattle.wtp_dynamic.specs.Table.{Table}
use Rattle.wtp_dynamic.specs.Section.{Prefix, table_line_at, AreTableLines, is_coded_line}
use Rattle.wtp_dynamic.specs.Faults.{section_code}
use Rattle.wtp_dynamic_fields.specs.declared.section.TableSectionError.{TableSectionError}
use Rattle.wtp_dynamic_fields.specs.declared.section.TableSectionError.TheVariants.{Section, TooLarge, Memory}

-- the list error for a fault of a section
abbrev pub list_error : SectionError → TableSectionError
list_error error.Memory = Memory
list_error fault = Section fault

-- the error code of a list error
abbrev pub list_code : TableSectionError → Option ℕ
list_code (Section fault) = section_code fault
list_code TooLarge = None
list_code Memory = None

-- ---- the lines of a section with this prefix, by a table

-- the section starts with the lines of these fields, followed by rest; the size of the fields is at
-- most the limit
pub record Reaches (limit : ℕ) (table : Table) (prefix : Prefix) (fields : List Field)
    (rest : List ℕ) : Type 0 where
  pub are : AreTableLines table prefix prefix.lines fields rest
  pub fits : list_size fields ≤ limit

-- after lines within the limit, the next line cannot be decoded, with this error
pub record HasFaultyLine (limit : ℕ) (table : Table) (prefix : Prefix) (fault : SectionError)
    : Type 0 where
  pub fields : List Field
  pub rest : List ℕ
  pub reached : Reaches limit table prefix fields rest
  pub some : 0 < length rest
  pub is : table_line_at table prefix rest ≡ Err fault

-- after lines within the limit, the size with the next field exceeds the limit
pub record ExceedsLimit (limit : ℕ) (table : Table) (prefix : Prefix) : Type 0 where
  pub fields : List Field
  pub rest : List ℕ
  pub field : Field
  pub behind : List ℕ
  pub reached : Reaches limit table prefix fields rest
  pub is : table_line_at table prefix rest ≡ Ok (field, behind)
  pub exceeds : limit < list_size fields + field_size field

-- the next line is valid, and the size with its field does not exceed the limit
pub record FitsNext (limit : ℕ) (table : Table) (prefix : Prefix) (fields : List Field)
    (rest : List ℕ) : Type 0 where
  pub field : Field
  pub behind : List ℕ
  pub is : table_line_at table prefix rest ≡ Ok (field, behind)
  pub fits : list_size fields + field_size field ≤ limit

-- after lines within the limit, the next line needs memory: it has a Huffman-encoded string, or its
-- field is within the limit and is copied
pub record NeedsMemory (limit : ℕ) (table : Table) (prefix : Prefix) : Type 0 where
  pub fields : List Field
  pub rest : List ℕ
  pub reached : Reaches limit table prefix fields rest
  pub needs : IsTrue (is_coded_line table prefix rest) ⊎ FitsNext limit table prefix fields rest

-- The result of decoding the lines with a limit: the fields, or the error at the first line, in byte
-- order, that cannot be decoded or with which the limit is exceeded.
abbrev pub LinesGive : ℕ → Table → Prefix → Result (List Field) TableSectionError → Type 0
LinesGive limit table prefix (Ok fields) = Reaches limit table prefix fields []
LinesGive limit table prefix (Err (Section fault)) = HasFaultyLine limit table prefix fault
LinesGive limit table prefix (Err TooLarge) = ExceedsLimit limit table prefix
LinesGive limit table prefix (Err Memory) = NeedsMemory limit table prefix
