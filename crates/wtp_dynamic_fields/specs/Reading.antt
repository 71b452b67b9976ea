-- What a decoder makes of a section of a stream (RFC 9204, sections 2.2 and 4.5).
use Rattle.std.specs.Prelude.{◌≡◌, ◌⊎◌, ℕ, true, false, List, Result, Ok, Err}
use Rattle.wtp_qpack.specs.Field.{Field}
use Rattle.wtp_dynamic.specs.declared.error.SectionError.{SectionError}
use Rattle.wtp_dynamic.specs.declared.error.SectionError.TheVariants as error
use Rattle.wtp_dynamic.specs.Table.{Table}
use Rattle.wtp_dynamic.specs.Section.{Prefix, prefix_at, is_blocked}
use Rattle.wtp_dynamic_decoder.specs.Decoder.{Decoder, IsOpened, IsWaiting, IsOneTooMany, IsNotKept}
use Rattle.wtp_dynamic_fields.specs.declared.section.Decoded.{Decoded}
use Rattle.wtp_dynamic_fields.specs.declared.section.Decoded.TheVariants.{Fields, Blocked}
use Rattle.wtp_dynamic_fields.specs.declared.section.TableSectionError.{TableSectionError}
use Rattle.wtp_dynamic_fields.specs.declared.section.TableSectionError.TheVariants.{Section, TooLarge, Memory}
use Rattle.wtp_dynamic_fields.specs.Lists.{LinesGive}

-- the section does not wait, and these are its lines, by the table as it is
pub record HasLines (limit stream : ℕ) (section : List ℕ) (old new : Decoder) (required : ℕ)
    (lines : Result (List Field) TableSectionError) : Type 0 where
  pub prefix : Prefix
  pub opened : IsOpened stream section old new prefix
  pub needs : required ≡ prefix.required
  pub give : LinesGive limit old.table prefix lines

-- the lines of a section that does not wait have this error
abbrev pub HasError : (limit stream : ℕ) → List ℕ → (old new : Decoder) → TableSectionError → Type 0
HasError limit stream section old new e =
    (required : ℕ) × HasLines limit stream section old new required (Err e)

-- why a section has no lines: its prefix has a fault, and nothing changed; or it has to wait, and as
-- many other streams wait as may (section 2.1.2)
abbrev pub IsRefused : ℕ → List ℕ → (old new : Decoder) → SectionError → Type 0
IsRefused stream section old new fault =
    ((new ≡ old) × (prefix_at old.table section ≡ Err fault))
    ⊎ ((fault ≡ error.TooManyBlocked) × IsOneTooMany stream section old new)

-- The result for a section of a stream, and the decoder after it: its fields and its count; how many
-- insertions it waits for; the error of its prefix or of its first faulty line; or refused memory,
-- for a stream that has to wait, or for a line.
abbrev pub SectionGives : (limit stream : ℕ) → List ℕ → (old new : Decoder)
    → Result Decoded TableSectionError → Type 0
SectionGives limit stream section old new (Ok (Fields list required)) =
    HasLines limit stream section old new required (Ok list)
SectionGives limit stream section old new (Ok (Blocked required)) =
    IsWaiting stream section old new required
SectionGives limit stream section old new (Err (Section fault)) =
    IsRefused stream section old new fault
    ⊎ HasError limit stream section old new (Section fault)
SectionGives limit stream section old new (Err TooLarge) =
    HasError limit stream section old new TooLarge
SectionGives limit stream section old new (Err Memory) =
    IsNotKept stream section old new ⊎ HasError limit stream section old new Memory

-- ---- a table alone, which keeps no account of the streams that wait

-- the section does not wait, and these are its lines
pub record HasLinesIn (limit : ℕ) (table : Table) (section : List ℕ) (required : ℕ)
    (lines : Result (List Field) TableSectionError) : Type 0 where
  pub prefix : Prefix
  pub is : prefix_at table section ≡ Ok prefix
  pub free : is_blocked table prefix ≡ false
  pub needs : required ≡ prefix.required
  pub give : LinesGive limit table prefix lines

-- the section needs so many insertions, and there were fewer (section 2.1.2)
pub record IsBlockedIn (table : Table) (section : List ℕ) (required : ℕ) : Type 0 where
  pub prefix : Prefix
  pub is : prefix_at table section ≡ Ok prefix
  pub needs : required ≡ prefix.required
  pub blocked : is_blocked table prefix ≡ true

abbrev pub HasErrorIn : ℕ → Table → List ℕ → TableSectionError → Type 0
HasErrorIn limit table section e =
    (required : ℕ) × HasLinesIn limit table section required (Err e)

-- The result for a section: its fields and its count; how many insertions it needs; the error of its
-- prefix or of its first faulty line; or refused memory for a line.
abbrev pub TableGives : ℕ → Table → List ℕ → Result Decoded TableSectionError → Type 0
TableGives limit table section (Ok (Fields list required)) =
    HasLinesIn limit table section required (Ok list)
TableGives limit table section (Ok (Blocked required)) = IsBlockedIn table section required
TableGives limit table section (Err (Section fault)) =
    (prefix_at table section ≡ Err fault) ⊎ HasErrorIn limit table section (Section fault)
TableGives limit table section (Err TooLarge) = HasErrorIn limit table section TooLarge
TableGives limit table section (Err Memory) = HasErrorIn limit table section Memory
