-- Error codes (RFC 9114, sections 8.1 and 11.2.3; RFC 9204, sections 6 and 8.3; RFC 9297, section 5.2;
-- WebTransport over HTTP/3, "HTTP/3 Error Code Registration").
use Rattle.std.specs.Prelude.{ℕ, List, [], ◌∷◌, Option, codes}
use Rattle.vesgrauf_registry.specs.Table.{Entry, Same, among, shown_by}
use Rattle.vesgrauf_registry.specs.declared.row.Row as row
use Rattle.vesgrauf_registry.specs.declared.codes.Code as declared
use Rattle.vesgrauf_registry.specs.declared.codes.Scope.{Scope}
use Rattle.vesgrauf_registry.specs.declared.codes.Scope.TheVariants.{Stream, Connection, Either}

-- the description of a code in the registry, and what it ends
pub record Code : Type 0 where
  pub description : List ℕ
  pub scope : Scope

-- a code, its name, its description and what it ends; its constant in C has its name
abbrev pub code : ℕ → List ℕ → List ℕ → Scope → Entry Code
code number name description scope = record {
  number = number;
  name = name;
  c_name = Same;
  columns = record { description = description; scope = scope };
}

-- ---- the table

-- the codes that are registered, and those of later drafts of WebTransport over HTTP/3
unfoldable pub registered : List (Entry Code)
registered =
    -- an HTTP Datagram that is malformed ends the connection, one that a request does not allow may
    -- end the request's stream (RFC 9297, sections 2 and 2.1)
    code 0x33 (codes "H3_DATAGRAM_ERROR") (codes "Datagram or Capsule Protocol parse error") Either
    -- a connection or a stream that is closed without an error (RFC 9114, sections 4.1 and 5.2)
    ∷ code 0x0100 (codes "H3_NO_ERROR") (codes "No error") Either
    -- it replaces any more specific code (RFC 9114, section 8.1)
    ∷ code 0x0101 (codes "H3_GENERAL_PROTOCOL_ERROR") (codes "General protocol error") Either
    -- no rule of RFC 9114 says what an internal error ends
    ∷ code 0x0102 (codes "H3_INTERNAL_ERROR") (codes "Internal error") Either
    -- a second control stream ends the connection, and so does a push stream that a client opens; a
    -- stream of an unknown type is only stopped (RFC 9114, sections 6.2, 6.2.1 and 6.2.2)
    ∷ code 0x0103 (codes "H3_STREAM_CREATION_ERROR") (codes "Stream creation error") Either
    -- RFC 9114, section 6.2.1
    ∷ code 0x0104 (codes "H3_CLOSED_CRITICAL_STREAM") (codes "Critical stream was closed") Connection
    -- RFC 9114, sections 4.1 and 7.2
    ∷ code 0x0105 (codes "H3_FRAME_UNEXPECTED")
    (codes "Frame not permitted in the current state") Connection
    -- RFC 9114, section 7.1
    ∷ code 0x0106 (codes "H3_FRAME_ERROR") (codes "Frame violated layout or size rules") Connection
    -- RFC 9114, section 10.5
    ∷ code 0x0107 (codes "H3_EXCESSIVE_LOAD") (codes "Peer generating excessive load") Connection
    -- RFC 9114, sections 4.6 and 7.2; WebTransport over HTTP/3
    ∷ code 0x0108 (codes "H3_ID_ERROR") (codes "An identifier was used incorrectly") Connection
    -- RFC 9114, section 7.2.4
    ∷ code 0x0109 (codes "H3_SETTINGS_ERROR")
    (codes "SETTINGS frame contained invalid values") Connection
    -- RFC 9114, section 6.2.1
    ∷ code 0x010a (codes "H3_MISSING_SETTINGS") (codes "No SETTINGS frame received") Connection
    -- RFC 9114, section 4.1.1
    ∷ code 0x010b (codes "H3_REQUEST_REJECTED") (codes "Request not processed") Stream
    -- RFC 9114, section 4.1.1
    ∷ code 0x010c (codes "H3_REQUEST_CANCELLED") (codes "Data no longer needed") Stream
    -- RFC 9114, section 4.1
    ∷ code 0x010d (codes "H3_REQUEST_INCOMPLETE") (codes "Stream terminated early") Stream
    -- RFC 9114, section 4.1.2
    ∷ code 0x010e (codes "H3_MESSAGE_ERROR") (codes "Malformed message") Stream
    -- RFC 9114, section 4.4
    ∷ code 0x010f (codes "H3_CONNECT_ERROR") (codes "TCP reset or error on CONNECT request") Stream
    -- the requested operation is retried over HTTP/1.1 (RFC 9114, section 8.1); no rule says what
    -- ends
    ∷ code 0x0110 (codes "H3_VERSION_FALLBACK") (codes "Retry over HTTP/1.1") Either
    -- RFC 9204, section 2.2.3
    ∷ code 0x0200 (codes "QPACK_DECOMPRESSION_FAILED")
    (codes "Decompression of a field section failed") Connection
    -- RFC 9204, sections 2.2.3 and 3.2
    ∷ code 0x0201 (codes "QPACK_ENCODER_STREAM_ERROR")
    (codes "Error on the encoder stream") Connection
    -- RFC 9204, section 4.4
    ∷ code 0x0202 (codes "QPACK_DECODER_STREAM_ERROR")
    (codes "Error on the decoder stream") Connection
    -- WebTransport over HTTP/3, "Buffering Incoming Streams and Datagrams"
    ∷ code 0x3994bd84 (codes "WEBTRANSPORT_BUFFERED_STREAM_REJECTED")
    (codes "WebTransport data stream rejected due to lack of associated session") Stream
    -- WebTransport over HTTP/3, "Session Termination"
    ∷ code 0x170d7b68 (codes "WEBTRANSPORT_SESSION_GONE")
    (codes
    "WebTransport data stream aborted because the associated WebTransport session has been closed"
    ) Stream
    -- a session whose limits are exceeded is closed, by its own stream (later drafts of
    -- WebTransport over HTTP/3, "Flow Control")
    ∷ code 0x045d4487 (codes "WT_FLOW_CONTROL_ERROR")
    (codes "WebTransport session aborted due to a flow control error") Stream
    -- a session without a protocol in common is closed, by its own stream (later drafts of
    -- WebTransport over HTTP/3, "Application Protocol Negotiation")
    ∷ code 0x0817b3dd (codes "WT_ALPN_ERROR")
    (codes "WebTransport session aborted because application protocol negotiation failed") Stream
    -- a session that the peer's settings or transport parameters do not allow is closed, by its own
    -- stream (later drafts of WebTransport over HTTP/3)
    ∷ code 0x212c0d48 (codes "WT_REQUIREMENTS_NOT_MET")
    (codes "WebTransport session aborted because a requirement is not met") Stream
    ∷ []

-- ---- by number

-- the entry of a code, if it is registered
unfoldable pub code_of : ℕ → Option (Entry Code)
code_of n = among n registered

-- ---- the rows of the code

abbrev pub shown_columns : declared.Code → Code
shown_columns c = record { description = c.description.now; scope = c.scope }

abbrev pub shown_code : row.Row declared.Code → Entry Code
shown_code r = shown_by shown_columns r
