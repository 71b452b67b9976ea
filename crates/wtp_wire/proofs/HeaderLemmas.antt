-- The kind and the session ID of a stream header, given by its fields.
use Rattle.std.proofs.Common.{◌≡◌, ℕ, true, Option, Some, None, refl, sym}
use Rattle.wtp_wire.specs.declared.stream_header.StreamKind.{StreamKind}
use Rattle.wtp_wire.specs.declared.stream_header.StreamKind.TheVariants.{WebTransport}
use Rattle.wtp_wire.specs.StreamKind.{has_session}
use Rattle.wtp_wire.specs.Header.{header, IsProperHeader, header_kind, header_session}

-- only WebTransport streams have a session ID
pub has_session-true : (kind : StreamKind) → has_session kind ≡ true → kind ≡ WebTransport
has_session-true WebTransport t = refl
has_session-true kind t = absurd cc

pub header_kind-header : (kind : StreamKind) (session : Option ℕ) (h : IsProperHeader kind session) → header_kind (header kind session) ≡ kind
header_kind-header kind None h = refl
header_kind-header kind (Some id) h = sym (has_session-true kind (sym h.opens))

pub header_session-header : (kind : StreamKind) (session : Option ℕ) → header_session (header kind session) ≡ session
header_session-header kind None = refl
header_session-header kind (Some id) = refl

pub ruleset header_fields = (header_kind-header, header_session-header)
