-- The header at the start of a unidirectional stream (RFC 9114, section 6.2).
use Rattle.std.specs.Prelude.{◌≡◌, ◌≢◌, ℕ, ◌%◌, List, ◌++◌, Option, Some, None, false, ◌==◌, if◌then◌else◌}
use Rattle.wtp_core.specs.Varint.{Encodes, number_at}
use Rattle.wtp_wire.specs.declared.stream_header.StreamKind.{StreamKind}
use Rattle.wtp_wire.specs.declared.stream_header.StreamKind.TheVariants.{WebTransport}
use Rattle.wtp_wire.specs.Front.{EncodesPair}
use Rattle.wtp_wire.specs.StreamKind.{IsStreamKind, has_session, stream_number_of, stream_kind_of}
use Rattle.wtp_wire.specs.Header.{Header, PlainHeader, WebTransportHeader}

-- What the bytes start with, and the bytes after it. Short means that more bytes are needed.
pub data HeaderFront : Type 0 where
  Headed : Header → List ℕ → HeaderFront
  Unknown : List ℕ → HeaderFront
  BadId : List ℕ → HeaderFront
  Short : HeaderFront

-- ---- the wire grammar

-- s is this header: a type, followed by a session ID after the WebTransport type
abbrev pub IsHeader : Header → List ℕ → Type 0
IsHeader (PlainHeader kind) s =
    (id : ℕ) × IsStreamKind kind id × (has_session kind ≡ false) × Encodes id s
IsHeader (WebTransportHeader id) s = EncodesPair (stream_number_of WebTransport) id s × (id % 4 ≡ 0)

-- s is an unknown type, whose stream must be ignored or rejected (RFC 9114, section 6.2)
abbrev pub IsUnknownHeader : List ℕ → Type 0
IsUnknownHeader s = (id : ℕ) × ((kind : StreamKind) → IsStreamKind kind id → ⊥) × Encodes id s

-- s is the WebTransport type and an invalid session ID
abbrev pub IsBadHeader : List ℕ → Type 0
IsBadHeader s = (id : ℕ) × EncodesPair (stream_number_of WebTransport) id s × (id % 4 ≢ 0)

-- the stream's bytes start with this case
abbrev pub StreamBegins : List ℕ → HeaderFront → Type 0
StreamBegins bytes (Headed h rest) = (s : List ℕ) × IsHeader h s × (bytes ≡ s ++ rest)
StreamBegins bytes (Unknown rest) = (s : List ℕ) × IsUnknownHeader s × (bytes ≡ s ++ rest)
StreamBegins bytes (BadId rest) = (s : List ℕ) × IsBadHeader s × (bytes ≡ s ++ rest)
StreamBegins bytes Short = ⊥

-- the same case with more bytes after it
abbrev pub header_extended : HeaderFront → List ℕ → HeaderFront
header_extended (Headed h rest) more = Headed h (rest ++ more)
header_extended (Unknown rest) more = Unknown (rest ++ more)
header_extended (BadId rest) more = BadId (rest ++ more)
header_extended Short more = Short

-- ---- the same, computed

-- the result of next for a value, or Short if there is none
abbrev pub or_short_header : {A : Type 0} → Option A → (A → HeaderFront) → HeaderFront
or_short_header None next = Short
or_short_header (Some x) next = next x

-- the case, given the bytes after the WebTransport type
unfoldable pub session_header_front : List ℕ → HeaderFront
session_header_front bytes =
    or_short_header (number_at bytes)
    (λ id. if id.0 % 4 == 0 then Headed (WebTransportHeader id.0) id.1 else BadId id.1)

-- the case, given a kind and the bytes after its type
abbrev pub kind_header_front : StreamKind → List ℕ → HeaderFront
kind_header_front kind bytes =
    if has_session kind then session_header_front bytes else Headed (PlainHeader kind) bytes

-- the case, given the kind of the type, if it is known, and the bytes after the type
abbrev pub typed_header_front : Option StreamKind → List ℕ → HeaderFront
typed_header_front None bytes = Unknown bytes
typed_header_front (Some kind) bytes = kind_header_front kind bytes

-- the case that the bytes start with: a header, an error, or Short
unfoldable pub header_front : List ℕ → HeaderFront
header_front bytes =
    or_short_header (number_at bytes) (λ id. typed_header_front (stream_kind_of id.0) id.1)
