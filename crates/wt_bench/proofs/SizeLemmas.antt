-- The size of the field lines that were read.
use Rattle.std.proofs.Common.{◌≡◌, ℕ, ◌+◌, List, [], ◌∷◌, ◌++◌, length, refl, sym, ◌∙◌, ap, arith, Ok}
use Rattle.std.proofs.lemmas.List.Sums.{sum_by-append}
use Rattle.wtp_fields.specs.Field.{Field}
use Rattle.wtp_fields.specs.FieldSection.{after_prefix}
use Rattle.wtp_fields.specs.FieldLines.{octet_line_at, AreOctetLines}
use Rattle.wt_bench.specs.Fields.{field_size, list_size}

-- the lines before the rest of a section have this size
pub record IsSize (section rest : List ℕ) (size : ℕ) : Type 0 where
  pub lines : List ℕ
  pub fields : List Field
  pub prefix : after_prefix section ≡ Ok lines
  pub are : AreOctetLines lines fields rest
  pub sum : size ≡ list_size fields

pub size_none : (section rest : List ℕ) → after_prefix section ≡ Ok rest → IsSize section rest 0
size_none section rest e = record { lines = rest; fields = []; prefix = e; are = refl; sum = refl }

lines_more : (lines : List ℕ) (fields : List Field) (rest behind : List ℕ) (line : Field) → AreOctetLines lines fields rest → octet_line_at rest ≡ Ok (line, behind) → AreOctetLines lines (fields ++ line ∷ []) behind
lines_more lines [] rest behind line e first = (behind, rw e first, refl)
lines_more lines (f ∷ fields) rest behind line (middle, e, more) first = (middle, e, lines_more middle fields rest behind line more first)

size_more : (fields : List Field) (line : Field) → list_size (fields ++ line ∷ []) ≡ list_size fields + field_size line
size_more fields line = let one : list_size (line ∷ []) ≡ field_size line = omega arith in omega (arith, sum_by-append field_size fields (line ∷ []), one)

pub size_on : (section rest behind : List ℕ) (size more : ℕ) (line : Field) → IsSize section rest size → octet_line_at rest ≡ Ok (line, behind) → more ≡ size + field_size line → IsSize section behind more
size_on section rest behind size more line old first e = record {
  lines = old.lines;
  fields = old.fields ++ line ∷ [];
  prefix = old.prefix;
  are = lines_more old.lines old.fields rest behind line old.are first;
  sum = omega (arith, e, old.sum, size_more old.fields line);
}
