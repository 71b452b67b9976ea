-- The instructions of the decoder stream (RFC 9204, section 4.4).
use Rattle.std.specs.Prelude.{ℕ, ◌^◌, ◌<◌, Bool, true, false, List, [], ◌∷◌, Result, Ok, Err}
use Rattle.wtp_qpack.specs.declared.qpack.DecodingError.{DecodingError}
use Rattle.wtp_qpack.specs.declared.qpack.DecodingError.TheVariants.{UnexpectedFin}
use Rattle.wtp_qpack.specs.Qpack.{◌>>=◌}
use Rattle.wtp_qpack.specs.Integer.{integer_at, shortest_int}
use Rattle.wtp_qpack.specs.FieldLine.{bit}
use Rattle.wtp_dynamic.specs.declared.acknowledgment.Acknowledgment.{Acknowledgment}
use Rattle.wtp_dynamic.specs.declared.acknowledgment.Acknowledgment.TheVariants.{Section, Cancellation, Increment}

-- 1 and the stream (section 4.4.1), 01 and the stream (4.4.2), 00 and the increment (4.4.3)
abbrev pub acknowledgment_bytes : Acknowledgment → List ℕ
acknowledgment_bytes (Section stream) = shortest_int 7 1 stream
acknowledgment_bytes (Cancellation stream) = shortest_int 6 1 stream
acknowledgment_bytes (Increment count) = shortest_int 6 0 count

abbrev pub Acknowledgments : Type 0
Acknowledgments = List ℕ → Result (Acknowledgment × List ℕ) DecodingError

unfoldable pub section_at : Acknowledgments
section_at bytes = do
  stream ← integer_at 7 bytes
  Ok (Section stream.0, stream.1)

unfoldable pub cancellation_at : Acknowledgments
cancellation_at bytes = do
  stream ← integer_at 6 bytes
  Ok (Cancellation stream.0, stream.1)

unfoldable pub increment_at : Acknowledgments
increment_at bytes = do
  count ← integer_at 6 bytes
  Ok (Increment count.0, count.1)

abbrev pub acknowledgment_by : Bool → Bool → Acknowledgments
acknowledgment_by true _ bytes = section_at bytes
acknowledgment_by false true bytes = cancellation_at bytes
acknowledgment_by false false bytes = increment_at bytes

-- the instruction at the start, and the bytes after it
unfoldable pub acknowledgment_at : Acknowledgments
acknowledgment_at [] = Err UnexpectedFin
acknowledgment_at (first ∷ bytes) = acknowledgment_by (bit 7 first) (bit 6 first) (first ∷ bytes)

-- its number fits 64 bits
abbrev pub CanAcknowledge : Acknowledgment → Type 0
CanAcknowledge (Section stream) = stream < 2 ^ 64
CanAcknowledge (Cancellation stream) = stream < 2 ^ 64
CanAcknowledge (Increment count) = count < 2 ^ 64
