-- The scope of an error code (RFC 9114, section 8): whether it ends a stream or the connection.
use Rattle.std.specs.Prelude.{Option, Some, None}
use Rattle.wtp_core.specs.declared.error.ErrorCode.{ErrorCode}
use Rattle.wtp_core.specs.declared.error.ErrorCode.TheVariants.{Datagram, NoError, StreamCreation, ClosedCriticalStream, FrameUnexpected, Frame, ExcessiveLoad, Id, Settings, MissingSettings, RequestRejected, Message, Decompression, BufferedStreamRejected, SessionGone}
use Rattle.wtp_core.specs.declared.error.Refused.{Refused}
use Rattle.wtp_core.specs.declared.error.Refused.TheVariants.{Code, Memory}
use Rattle.wtp_core.specs.declared.error.scope.ErrorScope.{ErrorScope}
use Rattle.wtp_core.specs.declared.error.scope.ErrorScope.TheVariants.{Stream, Connection, Either}

-- what an error code ends: a stream, the connection, or either of them
abbrev pub scope_of : ErrorCode → ErrorScope
-- a malformed datagram ends the connection; a datagram for a request that does not use datagrams
-- ends the request (RFC 9297, sections 2 and 2.1)
scope_of Datagram = Either
-- a connection or a stream that is closed without an error (RFC 9114, sections 4.1 and 5.2)
scope_of NoError = Either
-- a second control stream ends the connection, as does a push stream opened by a client; a stream
-- of an unknown type is only stopped (RFC 9114, sections 6.2, 6.2.1 and 6.2.2)
scope_of StreamCreation = Either
scope_of ClosedCriticalStream = Connection  -- RFC 9114, section 6.2.1
scope_of FrameUnexpected = Connection  -- RFC 9114, sections 4.1 and 7.2
scope_of Frame = Connection  -- RFC 9114, section 7.1
scope_of ExcessiveLoad = Connection  -- RFC 9114, section 10.5
scope_of Id = Connection  -- RFC 9114, sections 4.6 and 7.2; WebTransport over HTTP/3
scope_of Settings = Connection  -- RFC 9114, section 7.2.4
scope_of MissingSettings = Connection  -- RFC 9114, section 6.2.1
scope_of RequestRejected = Stream  -- RFC 9114, section 4.1.1
scope_of Message = Stream  -- RFC 9114, section 4.1.2
scope_of Decompression = Connection  -- RFC 9204, section 6
-- WebTransport over HTTP/3, "Buffering Incoming Streams and Datagrams"
scope_of BufferedStreamRejected = Stream
scope_of SessionGone = Stream  -- WebTransport over HTTP/3, "Session Termination"

-- the error code of a failed call, or None if allocation failed
abbrev pub code_in : Refused → Option ErrorCode
code_in (Code code) = Some code
code_in Memory = None
