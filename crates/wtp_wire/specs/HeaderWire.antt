-- The bytes of a written stream header, with each number in its shortest encoding (RFC 9114,
-- section 6.2).
use Rattle.std.specs.Prelude.{◌≡◌, ℕ, ◌%◌, ◌^◌, ◌<◌, List, [], ◌∷◌, false}
use Rattle.wtp_core.specs.Varint.{shortest}
use Rattle.wtp_core.specs.Writer.{joined}
use Rattle.wtp_wire.specs.declared.stream_header.StreamKind.TheVariants.{WebTransport}
use Rattle.wtp_wire.specs.StreamKind.{IsKnownStream, has_session, stream_number_of}
use Rattle.wtp_wire.specs.Header.{Header, PlainHeader, WebTransportHeader}

-- the parts of a header in order: its type and session ID
abbrev pub header_parts : Header → List (List ℕ)
header_parts (PlainHeader kind) = shortest (stream_number_of kind) ∷ []
header_parts (WebTransportHeader id) = shortest (stream_number_of WebTransport) ∷ shortest id ∷ []

-- the bytes of a header
abbrev pub header_wire : Header → List ℕ
header_wire h = joined (header_parts h)

-- the header can be read back: its type and session ID are valid
abbrev pub IsReadableHeader : Header → Type 0
IsReadableHeader (PlainHeader kind) =
    IsKnownStream kind × (has_session kind ≡ false) × (stream_number_of kind < 2 ^ 62)
IsReadableHeader (WebTransportHeader id) = (id < 2 ^ 62) × (id % 4 ≡ 0)
