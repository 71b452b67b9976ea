-- Lines of field sections, one more at a time.
use Rattle.std.proofs.Common.{◌≡◌, ℕ, ◌<◌, Bool, true, false, List, [], ◌∷◌, ◌++◌, length, map, not, Some, None, Result, Ok, Err, refl, ap, arith}
use Rattle.std.specs.Prelude.{◌&&◌}
use Rattle.std.proofs.lemmas.List.{map-append}
use Rattle.wtp_qpack.specs.Field.{Field}
use Rattle.wtp_qpack.specs.FieldLine.{bit}
use Rattle.wtp_qpack.specs.Integer.{integer_at}
use Rattle.wtp_qpack.specs.StringLiteral.{octets_at}
use Rattle.wtp_qpack.specs.declared.qpack.string_literal.Texts.TheVariants.{Octets}
use Rattle.wtp_qpack.proofs.StringReading.{int_shorter, string_shorter}
use Rattle.wtp_dynamic.specs.declared.error.SectionError.{SectionError}
use Rattle.wtp_dynamic.specs.Chain.{◌>>=◌}
use Rattle.wtp_dynamic.specs.Faults.{of_section}
use Rattle.wtp_dynamic.specs.Section.{Prefix, table_line_at}
use Rattle.wtp_dynamic.specs.Table.{Table}
use Rattle.wtp_dynamic.proofs.Answered.{table_line_shorter}
use Rattle.wtp_dynamic.proofs.Chains.{step_ok, rest_same, of_section_ok}
use Rattle.wt_inspection_model.specs.declared.item.fields.Line.{Line}
use Rattle.wt_inspection_model.specs.declared.item.fields.Unknown.TheVariants as unknown-is
use Rattle.wt_inspection.specs.Sections.{Shown, Reader, AreLines, shown_of, known, refers, index_of, entry_line_at, entry_name_at, reference_by, reference_at, line_at}

-- one more line
lines_with : (read : Reader) (shown : List Shown) (bytes behind rest : List ℕ) (line : Shown) → AreLines read bytes shown behind → read behind ≡ Ok (line, rest) → AreLines read bytes (shown ++ line ∷ []) rest
lines_with read [] bytes behind rest line are one = (rest, rw are one, refl)
lines_with read (first ∷ shown) bytes behind rest line (next, e, are) one =
    (next, e, lines_with read shown next behind rest line are one)

pub lines_more : (read : Reader) (lines : List Line) (bytes behind rest : List ℕ) (line : Line) → AreLines read bytes (map shown_of lines) behind → read behind ≡ Ok (shown_of line, rest) → AreLines read bytes (map shown_of (lines ++ line ∷ [])) rest
lines_more read lines bytes behind rest line are one =
    rw (map-append shown_of lines (line ∷ [])) (lines_with read (map shown_of lines) bytes behind rest (shown_of line) are one)

-- ---- a line has at least one byte

known_shorter : (table : Table) (prefix : Prefix) (bytes : List ℕ) (read : Result (Field × List ℕ) SectionError) (line : Shown) (rest : List ℕ) → table_line_at table prefix bytes ≡ read → known read ≡ Ok (line, rest) → length rest < length bytes
known_shorter table prefix bytes (Ok (field, behind)) line rest is e =
    let same : behind ≡ rest = rest_same (None, field) line behind rest e in
    omega (arith, ap length same, table_line_shorter table prefix bytes field behind is)
known_shorter table prefix bytes (Err cause) line rest is e = cc e

entry_shorter : (is_on : Bool) (n : ℕ) (bytes : List ℕ) (line : Shown) (rest : List ℕ) → entry_line_at is_on n bytes ≡ Ok (line, rest) → length rest < length bytes
unfolding entry_line_at
entry_shorter is_on n bytes line rest e =
    let k = step_ok (of_section (integer_at n bytes)) (λ (k : ℕ × List ℕ). Ok ((Some (unknown-is.Field (index_of is_on k.0)), ([], [])), k.1)) (line, rest) e in
    omega (arith, ap length (rest_same _ line k.0.1 rest k.2), int_shorter n bytes k.0.0 k.0.1 (of_section_ok (integer_at n bytes) k.0 k.1))

name_shorter : (is_on : Bool) (n : ℕ) (bytes : List ℕ) (line : Shown) (rest : List ℕ) → entry_name_at is_on n bytes ≡ Ok (line, rest) → length rest < length bytes
unfolding entry_name_at
name_shorter is_on n bytes line rest e =
    let k = step_ok (of_section (integer_at n bytes)) (λ (k : ℕ × List ℕ). of_section (octets_at 7 k.1) >>= λ (v : List ℕ × List ℕ). Ok ((Some (unknown-is.Name (index_of is_on k.0)), ([], v.0)), v.1)) (line, rest) e in
    let v = step_ok (of_section (octets_at 7 k.0.1)) (λ (v : List ℕ × List ℕ). Ok ((Some (unknown-is.Name (index_of is_on k.0.0)), ([], v.0)), v.1)) (line, rest) k.2 in
    omega (arith, ap length (rest_same _ line v.0.1 rest v.2), string_shorter Octets 7 k.0.1 v.0.0 v.0.1 (of_section_ok (octets_at 7 k.0.1) v.0 v.1), int_shorter n bytes k.0.0 k.0.1 (of_section_ok (integer_at n bytes) k.0 k.1))

by_shorter : (a b d : Bool) (bytes : List ℕ) (line : Shown) (rest : List ℕ) → reference_by a b d bytes ≡ Ok (line, rest) → length rest < length bytes
by_shorter true b d bytes line rest e = entry_shorter false 6 bytes line rest e
by_shorter false true d bytes line rest e = name_shorter false 4 bytes line rest e
by_shorter false false true bytes line rest e = entry_shorter true 4 bytes line rest e
by_shorter false false false bytes line rest e = name_shorter true 3 bytes line rest e

reference_shorter : (bytes : List ℕ) (line : Shown) (rest : List ℕ) → reference_at bytes ≡ Ok (line, rest) → length rest < length bytes
unfolding reference_at
reference_shorter [] line rest e = cc e
reference_shorter (b ∷ bs) line rest e = by_shorter (bit 7 b) (bit 6 b) (bit 4 b) (b ∷ bs) line rest e

pub line_shorter : (is_known : Bool) (table : Table) (prefix : Prefix) (bytes : List ℕ) (line : Shown) (rest : List ℕ) → line_at is_known table prefix bytes ≡ Ok (line, rest) → length rest < length bytes
line_shorter is_known table prefix bytes line rest e = go (not is_known && refers bytes) refl
  where
    go : (b : Bool) → (not is_known && refers bytes) ≡ b → length rest < length bytes
    go true is = reference_shorter bytes line rest (rw is at e)
    go false is = known_shorter table prefix bytes (table_line_at table prefix bytes) line rest refl (rw is at e)
