-- The error codes of stream errors and of failed exchanges.
use Rattle.std.specs.Prelude.{Option, Some, None}
use Rattle.wtp_core.specs.declared.error.ErrorCode.{ErrorCode}
use Rattle.wtp_core.specs.declared.error.ErrorCode.TheVariants.{FrameUnexpected}
use Rattle.wtp_core.specs.ErrorScope.{code_in}
use Rattle.wtp_wire.specs.declared.frame.kind.FrameKind.TheVariants.{Data}
use Rattle.wtransport_proto.specs.declared.exchange.ExchangeError.{ExchangeError}
use Rattle.wtransport_proto.specs.declared.exchange.ExchangeError.TheVariants.{Receive}
use Rattle.wtransport_proto.specs.declared.exchange.ReceiveError.{ReceiveError}
use Rattle.wtransport_proto.specs.declared.exchange.ReceiveError.TheVariants.{Stream, OtherKind, Section}
use Rattle.wtransport_proto.specs.declared.stream.error.IoReadError.{IoReadError}
use Rattle.wtransport_proto.specs.declared.stream.error.IoReadError.TheVariants.{H3, IO}

-- the error code of a stream error, or None if the source gave no more bytes
abbrev pub stream_code : IoReadError → Option ErrorCode
stream_code (H3 code) = Some code
stream_code (IO fault) = None

-- the error code of what was received instead of a header map, or None if nothing invalid was
-- received
abbrev pub receive_code : ReceiveError → Option ErrorCode
receive_code (Stream fault) = stream_code fault
receive_code (Section refused) = code_in refused
receive_code (OtherKind Data) = Some FrameUnexpected  -- RFC 9114, section 4.1
receive_code _ = None

-- the error code of a failed exchange, or None if nothing invalid was received
abbrev pub exchange_code : ExchangeError → Option ErrorCode
exchange_code (Receive error) = receive_code error
exchange_code _ = None
