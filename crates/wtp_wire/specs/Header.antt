-- The content of the header of a unidirectional stream (RFC 9114, section 6.2).
use Rattle.std.specs.Prelude.{◌≡◌, ℕ, Option, Some, None, is_some}
use Rattle.wtp_wire.specs.declared.stream_header.StreamKind.{StreamKind}
use Rattle.wtp_wire.specs.declared.stream_header.StreamKind.TheVariants.{Control, WebTransport}
use Rattle.wtp_wire.specs.StreamKind.{IsKnownStream, has_session}

-- a header: that of a stream of another kind than WebTransport, or of a WebTransport stream with
-- its session ID
pub data Header : Type 0 where
  PlainHeader : StreamKind → Header
  WebTransportHeader : ℕ → Header

-- the header of the control stream
abbrev pub ControlHeader : Header
ControlHeader = PlainHeader Control

-- the kind of the stream
abbrev pub header_kind : Header → StreamKind
header_kind (PlainHeader kind) = kind
header_kind (WebTransportHeader id) = WebTransport

-- the session ID of a WebTransport stream
abbrev pub header_session : Header → Option ℕ
header_session (PlainHeader kind) = None
header_session (WebTransportHeader id) = Some id

-- ---- the fields of a header

-- the header with these fields: a session ID makes it a WebTransport header
abbrev pub header : StreamKind → Option ℕ → Header
header kind None = PlainHeader kind
header kind (Some id) = WebTransportHeader id

-- the fields are consistent: there is a session ID exactly if the kind is WebTransport
pub record IsProperHeader (kind : StreamKind) (session : Option ℕ) : Type 0 where
  pub known : IsKnownStream kind
  pub opens : is_some session ≡ has_session kind
