-- The C form of headers of unidirectional streams (RFC 9114, section 6.2).
use Rattle.std.specs.Prelude.{◌≡◌, ℕ, List, drop, unwrap_or}
use Rattle.wtp_core.specs.declared.error.ErrorCode.TheVariants.{StreamCreation, Id}
use Rattle.wtp_core.specs.ErrorCodes.{code_number}
use Rattle.wtp_wire.specs.StreamKind.{stream_number_of}
use Rattle.wtp_wire.specs.Header.{Header, header_kind, header_session}
use Rattle.wtp_wire.specs.HeaderFront.{HeaderFront, Headed, Unknown, BadId, Short, header_front}
use Rattle.wtp_wire.specs.HeaderWire.{IsReadableHeader}
use Rattle.wt_c.specs.declared.stream_headers.WtStreamHeader.{WtStreamHeader}

-- the C form of a header: its type, and its session ID or 0
abbrev pub c_header : Header → WtStreamHeader
c_header h = record {
  kind = stream_number_of (header_kind h);
  session = unwrap_or (header_session h) 0;
}

-- the bytes start with this header, which is n bytes long
pub record StartsWithHeader (bytes : List ℕ) (n : ℕ) (c : WtStreamHeader) : Type 0 where
  pub header : Header
  pub front_is : header_front bytes ≡ Headed header (drop n bytes)
  pub same : c ≡ c_header header

-- the bytes start with an unknown type or an invalid session ID, and this is the error code
abbrev pub HasHeaderFault : HeaderFront → ℕ → Type 0
HasHeaderFault (Unknown rest) code = code ≡ code_number StreamCreation
HasHeaderFault (BadId rest) code = code ≡ code_number Id
HasHeaderFault (Headed h rest) code = ⊥
HasHeaderFault Short code = ⊥

-- this is the C form of the header. Its type is known, and it has a session ID only with the
-- WebTransport type
pub record IsHeaderIn (c : WtStreamHeader) (h : Header) : Type 0 where
  pub same : c ≡ c_header h
  pub proper : IsReadableHeader h
