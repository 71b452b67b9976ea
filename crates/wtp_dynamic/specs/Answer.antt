-- What a decoder answers for a section (RFC 9204, sections 2.2 and 4.5).
use Rattle.std.specs.Prelude.{◌≡◌, ◌≢◌, ◌⊎◌, ℕ, ◌<◌, false, true, List, [], length, Result, Ok, Err}
use Rattle.wtp_dynamic.specs.declared.error.SectionError.{SectionError}
use Rattle.wtp_dynamic.specs.declared.error.SectionError.TheVariants.{Memory}
use Rattle.wtp_qpack.specs.Field.{Field}
use Rattle.wtp_dynamic.specs.Table.{Table}
use Rattle.wtp_dynamic.specs.Section.{Prefix, prefix_at, is_blocked, table_line_at, AreTableLines}
use Rattle.wtp_dynamic.specs.declared.answer.Answer.{Answer}
use Rattle.wtp_dynamic.specs.declared.answer.Answer.TheVariants.{Fields, Blocked}

-- the prefix of a section whose lines can be read
pub record Opens (table : Table) (section : List ℕ) : Type 0 where
  pub prefix : Prefix
  pub is : prefix_at table section ≡ Ok prefix
  pub free : is_blocked table prefix ≡ false

-- the section's lines are these fields
pub record HasFields (table : Table) (section : List ℕ) (fields : List Field) : Type 0 where
  pub opens : Opens table section
  pub are : AreTableLines table opens.prefix opens.prefix.lines fields []

-- the section needs this many insertions, and there are fewer
pub record IsBlocked (table : Table) (section : List ℕ) (required : ℕ) : Type 0 where
  pub prefix : Prefix
  pub is : prefix_at table section ≡ Ok prefix
  pub needs : prefix.required ≡ required
  pub blocked : is_blocked table prefix ≡ true

-- the first fault of a section, which is not blocked, is that of a line
pub record HasLineFault (table : Table) (section : List ℕ) (e : SectionError) : Type 0 where
  pub opens : Opens table section
  pub fields : List Field
  pub rest : List ℕ
  pub are : AreTableLines table opens.prefix opens.prefix.lines fields rest
  pub some : 0 < length rest
  pub fault : table_line_at table opens.prefix rest ≡ Err e

abbrev pub HasFault : Table → List ℕ → SectionError → Type 0
HasFault table section e = (prefix_at table section ≡ Err e) ⊎ HasLineFault table section e

-- the answer: the fields, blocked, or unless allocation failed the first fault
abbrev pub Answers : Table → List ℕ → Result Answer SectionError → Type 0
Answers table section (Ok (Fields fields)) = HasFields table section fields.items
Answers table section (Ok (Blocked required)) = IsBlocked table section required
Answers table section (Err e) = e ≢ Memory → HasFault table section e
