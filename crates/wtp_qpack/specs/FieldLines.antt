-- Field lines one by one, as bytes (RFC 9204, section 4.5): their texts need not be UTF-8.
use Rattle.std.specs.Prelude.{◌≡◌, ◌≢◌, ℕ, ◌<◌, if◌then◌else◌, Bool, ◌&&◌, IsTrue, List, [], ◌∷◌}
use Rattle.std.specs.Prelude.{length, Option, Some, None, Result, Ok, Err}
use Rattle.std.specs.Str.{is_utf8}
use Rattle.std.specs.Vec.{vec_capacity}
use Rattle.wtp_qpack.specs.declared.qpack.DecodingError.{DecodingError}
use Rattle.wtp_qpack.specs.declared.qpack.DecodingError.TheVariants.{InvalidString, Memory}
use Rattle.wtp_qpack.specs.declared.qpack.string_literal.Texts.TheVariants.{Octets}
use Rattle.wtp_qpack.specs.declared.qpack.field_lines.FieldLine.{FieldLine}
use Rattle.wtp_qpack.specs.declared.qpack.field_lines.FieldBuffer.{FieldBuffer}
use Rattle.wtp_qpack.specs.Field.{Field}
use Rattle.wtp_qpack.specs.FieldLine.{Lines, line_in, is_coded_in}

-- the line at the start
abbrev pub octet_line_at : Lines
octet_line_at = line_in Octets

-- the bytes start with these lines, one after the other, followed by the rest
abbrev pub AreOctetLines : List ℕ → List Field → List ℕ → Type 0
AreOctetLines bytes [] rest = bytes ≡ rest
AreOctetLines bytes (line ∷ lines) rest =
    (behind : List ℕ) × (octet_line_at bytes ≡ Ok (line, behind)) × AreOctetLines behind lines rest

-- ---- which fields are texts

-- name and value are UTF-8
abbrev pub is_utf8_field : Field → Bool
is_utf8_field field = is_utf8 field.0 && is_utf8 field.1

abbrev pub AreUtf8Fields : List Field → Type 0
AreUtf8Fields [] = Unit {0}
AreUtf8Fields (field ∷ fields) = IsTrue (is_utf8_field field) × AreUtf8Fields fields

-- a line as a line of texts
abbrev pub as_texts : Field × List ℕ → Result (Field × List ℕ) DecodingError
as_texts line = if is_utf8_field line.0 then Ok line else Err InvalidString

-- ---- one line taken

-- how many bytes of memory a room has
abbrev pub room_bytes : FieldBuffer → ℕ
room_bytes room = vec_capacity room.texts

-- a room with no text in it
abbrev pub IsEmptyRoom : FieldBuffer → Type 0
IsEmptyRoom room = (room.texts.items ≡ []) × (room_bytes room ≡ 0)

abbrev pub seen_line : FieldLine → Field
seen_line line = (line.name.now, line.value.now)

-- The bytes of lines before and after one was taken: there is none; it is the line at the start; or
-- it has a fault, and nothing was taken.
abbrev pub TakesLine : List ℕ → List ℕ → Option (Result FieldLine DecodingError) → Type 0
TakesLine old new None = (old ≡ []) × (new ≡ [])
TakesLine old new (Some (Ok line)) = octet_line_at old ≡ Ok (seen_line line, new)
TakesLine old new (Some (Err fault)) =
    (0 < length old) × (new ≡ old) × (fault ≢ Memory → octet_line_at old ≡ Err fault)

-- the line at the start has Huffman text, before which it has no fault
abbrev pub is_coded_line : List ℕ → Bool
is_coded_line = is_coded_in Octets
