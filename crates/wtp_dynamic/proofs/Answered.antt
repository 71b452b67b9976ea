-- The lines of a section, one after the other, and its answer.
use Rattle.std.proofs.Common.{◌≡◌, ℕ, ◌<◌, inr, Bool, true, false, List, [], ◌∷◌, ◌++◌, length, refl, ap, arith, Result, Ok, Err}
use Rattle.wtp_qpack.specs.Field.{Field}
use Rattle.wtp_qpack.specs.Integer.{integer_at}
use Rattle.wtp_qpack.specs.declared.qpack.string_literal.Texts.TheVariants.{Octets}
use Rattle.wtp_qpack.specs.FieldLine.{bit}
use Rattle.wtp_qpack.specs.StringLiteral.{octets_at}
use Rattle.wtp_qpack.proofs.StringReading.{int_shorter, string_shorter}
use Rattle.wtp_dynamic.specs.declared.error.SectionError.{SectionError}
use Rattle.wtp_dynamic.specs.declared.section.Reference.{Reference}
use Rattle.wtp_dynamic.specs.declared.section.Reference.TheVariants.{On}
use Rattle.wtp_dynamic.specs.Chain.{◌>>=◌}
use Rattle.wtp_dynamic.specs.Faults.{of_section}
use Rattle.wtp_dynamic.specs.Table.{Table}
use Rattle.wtp_dynamic.specs.Answer.{HasFields, HasFault}
use Rattle.wtp_dynamic.specs.Section.{Prefix, prefix_at, is_blocked, entry_at, entry_line_at, name_line_at, literal_line_at, reference_of, line_by, table_line_at, AreTableLines}
use Rattle.wtp_dynamic.proofs.Chains.{step_ok, rest_same, of_section_ok}

pub entry_shorter : (reference : Reference) (n : ℕ) (table : Table) (prefix : Prefix) (bytes : List ℕ) (line : Field) (rest : List ℕ) → entry_line_at reference n table prefix bytes ≡ Ok (line, rest) → length rest < length bytes
unfolding entry_line_at
entry_shorter reference n table prefix bytes line rest e =
    let k = step_ok (of_section (integer_at n bytes)) (λ (k : ℕ × List ℕ). entry_at reference table prefix k.0 >>= λ e. Ok (e, k.1)) (line, rest) e in
    let x = step_ok (entry_at reference table prefix k.0.0) (λ e. Ok (e, k.0.1)) (line, rest) k.2 in
    omega (arith, ap length (rest_same x.0 line k.0.1 rest x.2), int_shorter n bytes k.0.0 k.0.1 (of_section_ok (integer_at n bytes) k.0 k.1))

-- a value after what was read of a line
abbrev valued : List ℕ → List ℕ × List ℕ → Result (Field × List ℕ) SectionError
valued name value = Ok ((name, value.0), value.1)

value_shorter : (name : List ℕ) (middle : List ℕ) (line : Field) (rest : List ℕ) → (of_section (octets_at 7 middle) >>= valued name) ≡ Ok (line, rest) → length rest < length middle
value_shorter name middle line rest e =
    let v = step_ok (of_section (octets_at 7 middle)) (valued name) (line, rest) e in
    omega (arith, ap length (rest_same (name, v.0.0) line v.0.1 rest v.2), string_shorter Octets 7 middle v.0.0 v.0.1 (of_section_ok (octets_at 7 middle) v.0 v.1))

name_shorter : (reference : Reference) (n : ℕ) (table : Table) (prefix : Prefix) (bytes : List ℕ) (line : Field) (rest : List ℕ) → name_line_at reference n table prefix bytes ≡ Ok (line, rest) → length rest < length bytes
unfolding name_line_at
name_shorter reference n table prefix bytes line rest e =
    let x = step_ok (entry_line_at reference n table prefix bytes) (λ (x : Field × List ℕ). of_section (octets_at 7 x.1) >>= valued x.0.0) (line, rest) e in
    omega (arith, entry_shorter reference n table prefix bytes x.0.0 x.0.1 x.1, value_shorter x.0.0.0 x.0.1 line rest x.2)

literal_shorter : (bytes : List ℕ) (line : Field) (rest : List ℕ) → literal_line_at bytes ≡ Ok (line, rest) → length rest < length bytes
unfolding literal_line_at
literal_shorter bytes line rest e =
    let x = step_ok (of_section (octets_at 3 bytes)) (λ (x : List ℕ × List ℕ). of_section (octets_at 7 x.1) >>= valued x.0) (line, rest) e in
    omega (arith, string_shorter Octets 3 bytes x.0.0 x.0.1 (of_section_ok (octets_at 3 bytes) x.0 x.1), value_shorter x.0.0 x.0.1 line rest x.2)

by_shorter : (a b c d : Bool) (table : Table) (prefix : Prefix) (bytes : List ℕ) (line : Field) (rest : List ℕ) → line_by a b c d table prefix bytes ≡ Ok (line, rest) → length rest < length bytes
by_shorter true t c d table prefix bytes line rest e = entry_shorter (reference_of t) 6 table prefix bytes line rest e
by_shorter false true c t table prefix bytes line rest e = name_shorter (reference_of t) 4 table prefix bytes line rest e
by_shorter false false true d table prefix bytes line rest e = literal_shorter bytes line rest e
by_shorter false false false true table prefix bytes line rest e = entry_shorter On 4 table prefix bytes line rest e
by_shorter false false false false table prefix bytes line rest e = name_shorter On 3 table prefix bytes line rest e

pub table_line_shorter : (table : Table) (prefix : Prefix) (bytes : List ℕ) (line : Field) (rest : List ℕ) → table_line_at table prefix bytes ≡ Ok (line, rest) → length rest < length bytes
unfolding table_line_at
table_line_shorter table prefix [] line rest e = cc e
table_line_shorter table prefix (b ∷ bs) line rest e = by_shorter (bit 7 b) (bit 6 b) (bit 5 b) (bit 4 b) table prefix (b ∷ bs) line rest e

pub table_lines_more : (table : Table) (prefix : Prefix) (text : List ℕ) (ls : List Field) (rest : List ℕ) (l : Field) (behind : List ℕ) → AreTableLines table prefix text ls rest
    → table_line_at table prefix rest ≡ Ok (l, behind) → AreTableLines table prefix text (ls ++ l ∷ []) behind
table_lines_more table prefix text [] rest l behind e line = (behind, rw e line, refl)
table_lines_more table prefix text (m ∷ ls) rest l behind (middle, first, more) line = (middle, first, table_lines_more table prefix middle ls rest l behind more line)

-- ---- the answer

pub has_fields : (table : Table) (section : List ℕ) (p : Prefix) (fields : List Field) → prefix_at table section ≡ Ok p → is_blocked table p ≡ false → AreTableLines table p p.lines fields [] → HasFields table section fields
has_fields table section p fields is free are = record { opens = record { prefix = p; is = is; free = free }; are = are }

pub has_fault : (table : Table) (section : List ℕ) (p : Prefix) (fields : List Field) (rest : List ℕ) (e : SectionError) → prefix_at table section ≡ Ok p → is_blocked table p ≡ false → AreTableLines table p p.lines fields rest
    → 0 < length rest → table_line_at table p rest ≡ Err e → HasFault table section e
has_fault table section p fields rest e is free are some fault = inr (record { opens = record { prefix = p; is = is; free = free }; fields = fields; rest = rest; are = are; some = some; fault = fault })
