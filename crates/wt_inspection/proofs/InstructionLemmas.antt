-- Where the instructions of QPACK's streams end.
use Rattle.std.proofs.Common.{◌≡◌, ℕ, ◌+◌, ◌-◌, ◌<◌, ◌≤◌, Bool, true, false, List, [], ◌∷◌, ◌++◌, length, take, drop, Result, Ok, Err, refl, sym, ap, ◌∙◌, arith, append-nil}
use Rattle.std.proofs.lemmas.List.{take_all, drop_all, drop_at, length-append}
use Rattle.wtp_qpack.specs.declared.qpack.DecodingError.{DecodingError}
use Rattle.wtp_qpack.specs.Integer.{integer_at}
use Rattle.wtp_qpack.specs.FieldLine.{bit}
use Rattle.wtp_qpack.proofs.Chosen.{bind_ok, same_rest}
use Rattle.wtp_qpack.proofs.IntegerLaws.{int_found}
use Rattle.wtp_qpack.proofs.StringReading.{int_shorter}
use Rattle.wtp_dynamic.specs.DecoderStream.{Acknowledgments, section_at, cancellation_at, increment_at, acknowledgment_by, acknowledgment_at}
use Rattle.wtp_dynamic.specs.Instruction.{Instruction, instruction_at}
use Rattle.wtp_dynamic.specs.declared.acknowledgment.Acknowledgment.{Acknowledgment}
use Rattle.wtp_dynamic.specs.declared.acknowledgment.Acknowledgment.TheVariants as acknowledgment-is
use Rattle.wtp_dynamic.specs.declared.error.EncoderStreamError.{EncoderStreamError}
use Rattle.wtp_huffman.specs.Huffman.{IsHuffman}
use Rattle.wtp_qpack.proofs.StringBits.{huffman_only}
use Rattle.wtp_dynamic.specs.Steps.{text_of}
use Rattle.wtp_dynamic.proofs.Cuts.{instruction_shorter}
use Rattle.wtp_dynamic.proofs.Fronts.{instruction_end}
use Rattle.wt_inspection_model.specs.declared.item.ending.FaultCode.TheVariants as code-is
use Rattle.wt_inspection.specs.Instructions.{IsNoAcknowledgment, IsNoInsertion, IsUnreadable, is_empty, said}
use Rattle.wt_inspection.specs.Stops.{StopsBy, Then}

-- ---- the encoder stream

pub insertion_shorter : (bytes rest : List ℕ) (i : Instruction) → instruction_at bytes ≡ Ok (i, rest) → length rest < length bytes
insertion_shorter bytes rest i e = instruction_shorter bytes i rest e

-- the bytes after an instruction, by how many bytes it has
pub insertion_rest : (bytes rest : List ℕ) (i : Instruction) (len : ℕ) → instruction_at bytes ≡ Ok (i, rest) → len ≡ length bytes - length rest → instruction_at bytes ≡ Ok (i, drop len bytes)
insertion_rest bytes rest i len e is =
    let end = instruction_end bytes i rest e in
    let size : len ≡ length end.0 = omega (arith, is, ap length end.1, length-append end.0 rest) in
    let left : drop len bytes ≡ rest = ap (drop len) end.1 ∙ drop_at end.0 rest len (sym size) in
    e ∙ ap (λ (z : List ℕ). Ok (i, z)) (sym left)

pub no_insertion : (place : ℕ) (bytes : List ℕ) (cause : DecodingError) (after : Then) → instruction_at bytes ≡ Err cause → IsUnreadable place code-is.EncoderStream cause after → IsNoInsertion place (instruction_at bytes) after
no_insertion place bytes cause after e h = rw e h

pub empty_insertion : (place : ℕ) (bytes rest : List ℕ) (i : Instruction) (cause : EncoderStreamError) (after : Then) → instruction_at bytes ≡ Ok (i, rest) → said i ≡ Err cause → StopsBy place code-is.EncoderStream after → IsNoInsertion place (instruction_at bytes) after
empty_insertion place bytes rest i cause after e none stops = rw e ((cause, none), stops)

-- the text of Huffman text
pub text_is : (flag : Bool) (bytes t : List ℕ) → flag ≡ true → IsHuffman t bytes → text_of (flag, bytes) ≡ Ok t
text_is flag bytes t is_huffman h = rw (is_huffman, huffman_only t bytes h) refl

-- ---- the decoder stream

-- the bytes end with the rest
abbrev Ends : Acknowledgments → Type 0
Ends reading = (bytes : List ℕ) (a : Acknowledgment) (rest : List ℕ) → reading bytes ≡ Ok (a, rest) → (front : List ℕ) × (bytes ≡ front ++ rest) × (0 < length front)

int_ends : (n : ℕ) (bytes : List ℕ) (v : ℕ) (read rest : List ℕ) → n ≤ 8 → integer_at n bytes ≡ Ok (v, read) → read ≡ rest → (front : List ℕ) × (bytes ≡ front ++ rest) × (0 < length front)
int_ends n bytes v read rest few e same =
    let found = int_found n v bytes read few e in
    let parts : bytes ≡ found.0 ++ rest = found.2 ∙ ap (λ (z : List ℕ). found.0 ++ z) same in
    let shorter : length read < length bytes = int_shorter n bytes v read e in
    (found.0, parts, omega (arith, ap length parts, length-append found.0 rest, ap length same, shorter))

section_ends : Ends section_at
unfolding section_at
section_ends bytes a rest e =
    let k = bind_ok (integer_at 7 bytes) (λ (k : ℕ × List ℕ). Ok (acknowledgment-is.Section k.0, k.1)) (a, rest) e in
    int_ends 7 bytes k.0.0 k.0.1 rest (omega arith) k.1 (same_rest (acknowledgment-is.Section k.0.0) a k.0.1 rest k.2)

cancellation_ends : Ends cancellation_at
unfolding cancellation_at
cancellation_ends bytes a rest e =
    let k = bind_ok (integer_at 6 bytes) (λ (k : ℕ × List ℕ). Ok (acknowledgment-is.Cancellation k.0, k.1)) (a, rest) e in
    int_ends 6 bytes k.0.0 k.0.1 rest (omega arith) k.1 (same_rest (acknowledgment-is.Cancellation k.0.0) a k.0.1 rest k.2)

increment_ends : Ends increment_at
unfolding increment_at
increment_ends bytes a rest e =
    let k = bind_ok (integer_at 6 bytes) (λ (k : ℕ × List ℕ). Ok (acknowledgment-is.Increment k.0, k.1)) (a, rest) e in
    int_ends 6 bytes k.0.0 k.0.1 rest (omega arith) k.1 (same_rest (acknowledgment-is.Increment k.0.0) a k.0.1 rest k.2)

by_ends : (a b : Bool) → Ends (acknowledgment_by a b)
by_ends true b bytes a rest e = section_ends bytes a rest e
by_ends false true bytes a rest e = cancellation_ends bytes a rest e
by_ends false false bytes a rest e = increment_ends bytes a rest e

acknowledgment_ends : Ends acknowledgment_at
unfolding acknowledgment_at
acknowledgment_ends [] a rest e = cc e
acknowledgment_ends (b ∷ bs) a rest e = by_ends (bit 7 b) (bit 6 b) (b ∷ bs) a rest e

pub acknowledgment_shorter : (bytes rest : List ℕ) (a : Acknowledgment) → acknowledgment_at bytes ≡ Ok (a, rest) → length rest < length bytes
acknowledgment_shorter bytes rest a e =
    let (front, parts, some) = acknowledgment_ends bytes a rest e in
    omega (arith, ap length parts, length-append front rest, some)

pub acknowledgment_rest : (bytes rest : List ℕ) (a : Acknowledgment) (len : ℕ) → acknowledgment_at bytes ≡ Ok (a, rest) → len ≡ length bytes - length rest → acknowledgment_at bytes ≡ Ok (a, drop len bytes)
acknowledgment_rest bytes rest a len e is =
    let (front, parts, some) = acknowledgment_ends bytes a rest e in
    let size : len ≡ length front = omega (arith, is, ap length parts, length-append front rest) in
    let left : drop len bytes ≡ rest = ap (drop len) parts ∙ drop_at front rest len (sym size) in
    e ∙ ap (λ (z : List ℕ). Ok (a, z)) (sym left)

pub no_acknowledgment : (place : ℕ) (bytes : List ℕ) (cause : DecodingError) (after : Then) → acknowledgment_at bytes ≡ Err cause → IsUnreadable place code-is.DecoderStream cause after → IsNoAcknowledgment place (acknowledgment_at bytes) after
no_acknowledgment place bytes cause after e h = rw e h

pub empty_acknowledgment : (place : ℕ) (bytes rest : List ℕ) (a : Acknowledgment) (after : Then) → acknowledgment_at bytes ≡ Ok (a, rest) → is_empty a ≡ true → StopsBy place code-is.DecoderStream after → IsNoAcknowledgment place (acknowledgment_at bytes) after
empty_acknowledgment place bytes rest a after e none stops = rw e (none, stops)
