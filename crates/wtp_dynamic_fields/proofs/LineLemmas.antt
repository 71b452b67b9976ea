-- Decoding field lists line by line.
use Rattle.std.proofs.Common.{◌≡◌, inl, inr, ℕ, ◌+◌, ◌-◌, ◌<◌, ◌≤◌, List, [], ◌∷◌, ◌++◌, arith, Result, Ok, Err, IsTrue}
use Rattle.std.specs.Result.{IsErrAnd}
use Rattle.wtp_qpack.specs.Field.{Field}
use Rattle.wtp_fields.specs.FieldList.{field_size, list_size}
use Rattle.wtp_fields.proofs.FieldListLemmas.{size_push}
use Rattle.wtp_dynamic.specs.Table.{Table}
use Rattle.wtp_dynamic.specs.Section.{Prefix, table_line_at, AreTableLines, is_coded_line}
use Rattle.wtp_dynamic.proofs.Answered.{table_lines_more}
use Rattle.wtp_dynamic_fields.specs.declared.section.TableSectionError.{TableSectionError}
use Rattle.wtp_dynamic_fields.specs.declared.section.TableSectionError.TheVariants.{Memory}
use Rattle.wtp_dynamic_fields.specs.Lists.{Reaches, ExceedsLimit, NeedsMemory, LinesGive}

-- these fields were decoded, rest follows, and left is left of the limit
pub record IsRead (limit : ℕ) (table : Table) (prefix : Prefix) (fields : List Field) (rest : List ℕ) (left : ℕ) : Type 0 where
  pub are : AreTableLines table prefix prefix.lines fields rest
  pub sum : list_size fields + left ≡ limit

pub reached : (limit : ℕ) (table : Table) (prefix : Prefix) (fields : List Field) (rest : List ℕ) (left : ℕ) → IsRead limit table prefix fields rest left → Reaches limit table prefix fields rest
reached limit table prefix fields rest left is = record { are = is.are; fits = let sum = is.sum in omega (arith, sum) }

pub one_read : (limit : ℕ) (table : Table) (prefix : Prefix) (fields : List Field) (rest : List ℕ) (left : ℕ) (field : Field) (behind : List ℕ) → IsRead limit table prefix fields rest left
    → table_line_at table prefix rest ≡ Ok (field, behind) → field_size field ≤ left → IsRead limit table prefix (fields ++ field ∷ []) behind (left - field_size field)
one_read limit table prefix fields rest left field behind is line fits = record {
  are = table_lines_more table prefix prefix.lines fields rest field behind is.are line;
  sum = let sum = is.sum in omega (arith, sum, fits, size_push fields field);
}

pub exceeded : (limit : ℕ) (table : Table) (prefix : Prefix) (fields : List Field) (rest : List ℕ) (left : ℕ) (field : Field) (behind : List ℕ) → IsRead limit table prefix fields rest left
    → table_line_at table prefix rest ≡ Ok (field, behind) → left < field_size field → ExceedsLimit limit table prefix
exceeded limit table prefix fields rest left field behind is line more = record {
  fields = fields;
  rest = rest;
  field = field;
  behind = behind;
  reached = reached limit table prefix fields rest left is;
  is = line;
  exceeds = let sum = is.sum in omega (arith, sum, more);
}

pub coded_refused : (limit : ℕ) (table : Table) (prefix : Prefix) (fields : List Field) (rest : List ℕ) (left : ℕ) → IsRead limit table prefix fields rest left → IsTrue (is_coded_line table prefix rest) → NeedsMemory limit table prefix
coded_refused limit table prefix fields rest left is coded = record { fields = fields; rest = rest; reached = reached limit table prefix fields rest left is; needs = inl coded }

pub copy_refused : (limit : ℕ) (table : Table) (prefix : Prefix) (fields : List Field) (rest : List ℕ) (left : ℕ) (field : Field) (behind : List ℕ) → IsRead limit table prefix fields rest left
    → table_line_at table prefix rest ≡ Ok (field, behind) → field_size field ≤ left → NeedsMemory limit table prefix
copy_refused limit table prefix fields rest left field behind is line fits = record {
  fields = fields;
  rest = rest;
  reached = reached limit table prefix fields rest left is;
  needs = inr (record { field = field; behind = behind; is = line; fits = let sum = is.sum in omega (arith, sum, fits) });
}

-- a refused allocation
pub memory_given : (limit : ℕ) (table : Table) (prefix : Prefix) (r : Result (List Field) TableSectionError) → IsErrAnd r (λ e. e ≡ Memory) → NeedsMemory limit table prefix → LinesGive limit table prefix r
memory_given limit table prefix (Ok fields) is needs = absurd is
memory_given limit table prefix (Err e) is needs = rw is needs
