-- The result of reading a section, and the lines one after the other.
use Rattle.std.proofs.Common.{◌≡◌, ℕ, zero, suc, ◌<◌, ◌≤◌, ◌⊎◌, inl, inr, List, [], ◌∷◌, length, refl, subst, arith, Ok, Err}
use Rattle.wtp_qpack.specs.declared.qpack.DecodingError.{DecodingError}
use Rattle.wtp_qpack.specs.declared.qpack.string_literal.Texts.TheVariants.{Utf8}
use Rattle.wtp_qpack.specs.Field.{Field}
use Rattle.wtp_qpack.specs.Qpack.{◌>>=◌}
use Rattle.wtp_qpack.specs.FieldLine.{line_at}
use Rattle.wtp_qpack.specs.FieldSection.{after_prefix, AreLines, ReachesLine, lines_at, section_at}
use Rattle.wtp_qpack.proofs.Chosen.{bind_ok, bind_err}
use Rattle.wtp_qpack.proofs.SectionReading.{line_shorter, lines_read, lines_fault}

are_lines : (n : ℕ) (bytes : List ℕ) (lines : List Field) → length bytes ≤ n → lines_at n bytes ≡ Ok lines → AreLines bytes lines []
unfolding lines_at
are_lines n [] lines few e =
    let none : [] ≡ lines = cc e in
    subst (λ z. AreLines [] z []) none refl
are_lines zero (b ∷ bs) lines few e = absurd (omega arith)
are_lines (suc n) (b ∷ bs) lines few e =
    let first = bind_ok (line_at (b ∷ bs)) (λ (line : Field × List ℕ). lines_at n line.1 >>= λ lines. Ok (line.0 ∷ lines)) lines e in
    let later = bind_ok (lines_at n first.0.1) (λ (lines : List Field). Ok (first.0.0 ∷ lines)) lines first.2 in
    let less : length first.0.1 < length (b ∷ bs) = line_shorter Utf8 (b ∷ bs) first.0.0 first.0.1 first.1 in
    let same : first.0.0 ∷ later.0 ≡ lines = cc later.2 in
    subst (λ z. AreLines (b ∷ bs) z []) same (first.0.1, first.1, are_lines n first.0.1 later.0 (omega arith) later.1)

-- the lines before a fault, and its position
pub record Faulty (bytes : List ℕ) (e : DecodingError) : Type 0 where
  pub lines : List Field
  pub rest : List ℕ
  pub are : AreLines bytes lines rest
  pub some : 0 < length rest
  pub fault : line_at rest ≡ Err e

faulty : (n : ℕ) (bytes : List ℕ) (e : DecodingError) → length bytes ≤ n → lines_at n bytes ≡ Err e → Faulty bytes e
unfolding lines_at
faulty n [] f few e = cc e
faulty zero (b ∷ bs) f few e = absurd (omega arith)
faulty (suc n) (b ∷ bs) f few e = elim (bind_err (line_at (b ∷ bs)) (λ (line : Field × List ℕ). lines_at n line.1 >>= λ lines. Ok (line.0 ∷ lines)) f e) [
  | inl here ↦ record { lines = []; rest = b ∷ bs; are = refl; some = omega arith; fault = here }
  | inr first ↦ elim (bind_err (lines_at n first.0.1) (λ (lines : List Field). Ok (first.0.0 ∷ lines)) f first.2) [
    | inl later ↦
        let less : length first.0.1 < length (b ∷ bs) = line_shorter Utf8 (b ∷ bs) first.0.0 first.0.1 first.1 in
        let there = faulty n first.0.1 f (omega arith) later in
        record { lines = first.0.0 ∷ there.lines; rest = there.rest; are = (first.0.1, first.1, there.are); some = there.some; fault = there.fault }
    | inr good ↦ cc good.2
  ]
]

pub section_read : (bytes lines : List ℕ) (fields : List Field) → after_prefix bytes ≡ Ok lines → AreLines lines fields [] → section_at bytes ≡ Ok fields
unfolding section_at
section_read bytes lines fields e are = rw e (lines_read fields (length lines) lines (omega arith) are)

pub section_found : (bytes : List ℕ) (fields : List Field) → section_at bytes ≡ Ok fields → (lines : List ℕ) × (after_prefix bytes ≡ Ok lines) × AreLines lines fields []
unfolding section_at
section_found bytes fields e =
    let behind = bind_ok (after_prefix bytes) (λ (lines : List ℕ). lines_at (length lines) lines) fields e in
    (behind.0, behind.1, are_lines (length behind.0) behind.0 fields (omega arith) behind.2)

pub section_cut : (bytes : List ℕ) (e : DecodingError) → after_prefix bytes ≡ Err e → section_at bytes ≡ Err e
unfolding section_at
section_cut bytes f e = rw e refl

pub section_fault : (bytes : List ℕ) (e : DecodingError) (reached : ReachesLine bytes) → line_at reached.rest ≡ Err e → section_at bytes ≡ Err e
unfolding section_at
section_fault bytes f reached fault = rw (reached.prefix, lines_fault reached.fields (length reached.lines) reached.lines reached.rest f (omega arith) reached.good reached.some fault) refl

pub fault_found : (bytes : List ℕ) (e : DecodingError) → section_at bytes ≡ Err e → (after_prefix bytes ≡ Err e) ⊎ ((reached : ReachesLine bytes) × (line_at reached.rest ≡ Err e))
unfolding section_at
fault_found bytes f e = elim (bind_err (after_prefix bytes) (λ (lines : List ℕ). lines_at (length lines) lines) f e) [
  | inl cut ↦ inl cut
  | inr behind ↦
      let there = faulty (length behind.0) behind.0 f (omega arith) behind.2 in
      inr (record { lines = behind.0; fields = there.lines; rest = there.rest; prefix = behind.1; good = there.are; some = there.some }, there.fault)
]
