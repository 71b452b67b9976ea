-- Instructions of the decoder stream that were written are read again.
use Rattle.std.proofs.Common.{◌≡◌, ℕ, ◌+◌, ◌*◌, ◌/◌, ◌%◌, ◌^◌, Bool, true, false, List, ◌∷◌, ◌++◌, refl, sym, ◌∙◌, ap, arith, Ok, eq-eqb, ne_eqb}
use Rattle.wtp_qpack.specs.Integer.{shortest_int}
use Rattle.wtp_qpack.specs.FieldLine.{bit}
use Rattle.wtp_qpack.proofs.RoundTrip.{short_head}
use Rattle.wtp_dynamic.specs.declared.acknowledgment.Acknowledgment.{Acknowledgment}
use Rattle.wtp_dynamic.specs.declared.acknowledgment.Acknowledgment.TheVariants.{Section, Cancellation, Increment}
use Rattle.wtp_dynamic.specs.DecoderStream.{acknowledgment_bytes, section_at, cancellation_at, increment_at, acknowledgment_by, acknowledgment_at, CanAcknowledge}
use Rattle.wtp_dynamic.proofs.Written.{int_again}

acknowledgment_as : (text rest : List ℕ) (b : ℕ) (x y : Bool) → text ≡ b ∷ rest → bit 7 b ≡ x → bit 6 b ≡ y → acknowledgment_at text ≡ acknowledgment_by x y text
unfolding acknowledgment_at
acknowledgment_as text rest b x y e first second = ap acknowledgment_at e ∙ rw (first, second) refl ∙ ap (acknowledgment_by x y) (sym e)

pub acknowledgment_again : (a : Acknowledgment) (rest : List ℕ) → CanAcknowledge a → acknowledgment_at (acknowledgment_bytes a ++ rest) ≡ Ok (a, rest)
unfolding section_at cancellation_at increment_at
acknowledgment_again (Section stream) rest small =
    let head = short_head 7 1 stream rest in
    let b : ℕ = 1 * 2 ^ 7 + head.0 in
    acknowledgment_as (shortest_int 7 1 stream ++ rest) head.2 b true (bit 6 b) head.3 (eq-eqb (b / 2 ^ 7 % 2) 1 (omega (arith, head.1))) refl
    ∙ rw (int_again 7 1 stream rest small) refl
acknowledgment_again (Cancellation stream) rest small =
    let head = short_head 6 1 stream rest in
    let b : ℕ = 1 * 2 ^ 6 + head.0 in
    acknowledgment_as (shortest_int 6 1 stream ++ rest) head.2 b false true head.3 (ne_eqb (b / 2 ^ 7 % 2) 1 (omega (arith, head.1))) (eq-eqb (b / 2 ^ 6 % 2) 1 (omega (arith, head.1)))
    ∙ rw (int_again 6 1 stream rest small) refl
acknowledgment_again (Increment count) rest small =
    let head = short_head 6 0 count rest in
    let b : ℕ = 0 * 2 ^ 6 + head.0 in
    acknowledgment_as (shortest_int 6 0 count ++ rest) head.2 b false false head.3 (ne_eqb (b / 2 ^ 7 % 2) 1 (omega (arith, head.1))) (ne_eqb (b / 2 ^ 6 % 2) 1 (omega (arith, head.1)))
    ∙ rw (int_again 6 0 count rest small) refl
