-- Sections that do not refer to the dynamic table: what `wtp_qpack` reads of them, and what is read
-- with a table (RFC 9204, section 4.5).
use Rattle.std.specs.Prelude.{◌≡◌, ◌⊎◌, ℕ, false, List, Result, Ok, Err}
use Rattle.wtp_qpack.specs.declared.qpack.DecodingError.{DecodingError}
use Rattle.wtp_qpack.specs.declared.qpack.DecodingError.TheVariants as reading
use Rattle.wtp_qpack.specs.Integer.{integer_at}
use Rattle.wtp_qpack.specs.StringLiteral.{flag_above}
use Rattle.wtp_fields.specs.declared.fields.FieldSectionError.TheVariants as static
use Rattle.wtp_fields.specs.FieldList.{DecodesTo}
use Rattle.wtp_dynamic.specs.declared.error.SectionError.{SectionError}
use Rattle.wtp_dynamic.specs.declared.error.SectionError.TheVariants.{UnexpectedEnd, IntegerOverflow, EntryNotFound}
use Rattle.wtp_dynamic.specs.Faults.{section_fault}
use Rattle.wtp_dynamic.specs.Section.{Prefix}
use Rattle.wtp_dynamic_fields.specs.declared.section.Decoded.{Decoded}
use Rattle.wtp_dynamic_fields.specs.declared.section.Decoded.TheVariants.{Fields, Blocked}
use Rattle.wtp_dynamic_fields.specs.declared.section.TableSectionError.{TableSectionError}
use Rattle.wtp_dynamic_fields.specs.declared.section.TableSectionError.TheVariants.{Section, TooLarge, Memory}

-- ---- lines

-- the fault that a line has where no entry of the dynamic table may be referred to: its index is cut,
-- too large, or refers to no entry
abbrev pub RefersToNone : SectionError → Type 0
RefersToNone fault = (fault ≡ UnexpectedEnd) ⊎ ((fault ≡ IntegerOverflow) ⊎ (fault ≡ EntryNotFound))

-- A fault of a section without the dynamic table, and the fault that is found with a table. Without
-- one, a line that refers to it is refused before its index is read.
abbrev pub Corresponds : DecodingError → SectionError → Type 0
Corresponds reading.DynamicNotSupported found = RefersToNone found
Corresponds fault found = found ≡ section_fault fault

-- a line is read alike without a table and with one that it may not refer to
abbrev pub IsReadAlike : {X : Type 0} → Result X DecodingError → Result X SectionError → Type 0
IsReadAlike (Ok line) found = found ≡ Ok line
IsReadAlike (Err fault) found = (e : SectionError) × (found ≡ Err e) × Corresponds fault e

-- a line is read alike without a table and with any, unless it refers to the table
abbrev pub IsReadAlikeUnlessDynamic :
    {X : Type 0} → Result X DecodingError → Result X SectionError → Type 0
IsReadAlikeUnlessDynamic (Ok line) found = found ≡ Ok line
IsReadAlikeUnlessDynamic (Err reading.DynamicNotSupported) found = Unit {0}
IsReadAlikeUnlessDynamic (Err fault) found = found ≡ Err (section_fault fault)

-- ---- prefixes

-- the prefix names no table: its Required Insert Count is 0 and its Sign bit is 0, as far as they are
-- there (sections 4.5.1.1 and 4.5.1.2)
abbrev pub NamesNoTable : List ℕ → Type 0
NamesNoTable section = (count : ℕ × List ℕ) → integer_at 8 section ≡ Ok count
    → (count.0 ≡ 0) × (flag_above 7 count.1 ≡ false)

-- the prefix of a section that names no table, by what is after it
abbrev pub IsPrefixOf : Result (List ℕ) DecodingError → Result Prefix SectionError → Type 0
IsPrefixOf (Ok lines) found =
    (base : ℕ) × (found ≡ Ok (record { required = 0; base = base; lines = lines }))
IsPrefixOf (Err fault) found = found ≡ Err (section_fault fault)

-- ---- sections

-- the result with a decoder is the one without a table
abbrev pub StaticGives : ℕ → List ℕ → Result Decoded TableSectionError → Type 0
StaticGives limit section (Ok (Fields list required)) =
    DecodesTo limit section (Ok list) × (required ≡ 0)
StaticGives limit section (Ok (Blocked required)) = ⊥
StaticGives limit section (Err (Section found)) =
    (fault : DecodingError) × Corresponds fault found
    × DecodesTo limit section (Err (static.Decoding fault))
StaticGives limit section (Err TooLarge) = DecodesTo limit section (Err static.TooLarge)
StaticGives limit section (Err Memory) = DecodesTo limit section (Err static.Memory)
