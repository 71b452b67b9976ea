-- The error codes of parse errors of frames, stream headers and capsules.
use Rattle.std.specs.Prelude.{Option, Some, None}
use Rattle.wtp_core.specs.declared.error.ErrorCode.{ErrorCode}
use Rattle.wtp_core.specs.declared.error.ErrorCode.TheVariants.{Id, ExcessiveLoad, StreamCreation, Frame, Datagram}
use Rattle.wtp_core.specs.declared.bytes.error.IoReadError.TheVariants.{UnexpectedFin}
use Rattle.wtp_wire.specs.declared.capsule.CapsuleError.{CapsuleError}
use Rattle.wtp_wire.specs.declared.capsule.CapsuleError.TheVariants.{TooLong, Memory}
use Rattle.wtp_wire.specs.declared.frame.reading.IoReadError.TheVariants as frame_reads
use Rattle.wtp_wire.specs.declared.frame.reading.IoReadError.{IoReadError as FrameReadFault}
use Rattle.wtp_wire.specs.declared.stream_header.reading.IoReadError.TheVariants as header_reads
use Rattle.wtp_wire.specs.declared.stream_header.reading.IoReadError.{IoReadError as HeaderReadFault}
use Rattle.wtp_wire.specs.declared.frame.ParseError.TheVariants as frames
use Rattle.wtp_wire.specs.declared.stream_header.ParseError.TheVariants as headers
use Rattle.wtp_wire.specs.declared.frame.ParseError.{ParseError as FrameFault}
use Rattle.wtp_wire.specs.declared.stream_header.ParseError.{ParseError as HeaderFault}

-- the error code of a frame's parse error, or None for an unknown frame
abbrev pub frame_code : FrameFault → Option ErrorCode
frame_code frames.UnknownFrame = None  -- to be ignored (RFC 9114, section 9)
frame_code frames.InvalidSessionId = Some Id  -- WebTransport over HTTP/3, "Bidirectional Streams"
frame_code frames.PayloadTooBig = Some ExcessiveLoad  -- RFC 9114, section 10.5

-- the error code of a stream header's parse error
abbrev pub header_code : HeaderFault → ErrorCode
header_code headers.UnknownStream = StreamCreation  -- RFC 9114, section 6.2
header_code headers.InvalidSessionId = Id  -- WebTransport over HTTP/3, "Unidirectional Streams"

-- the error code of a failed read of a frame; a source that ends inside a frame is a frame error
abbrev pub frame_read_code : FrameReadFault → Option ErrorCode
frame_read_code (frame_reads.Parse fault) = frame_code fault
frame_read_code (frame_reads.IO UnexpectedFin) = Some Frame  -- RFC 9114, section 7.1
frame_read_code (frame_reads.IO fault) = None

-- the error code of a failed read of a stream header; a stream that ends or is reset before its
-- header is complete must be tolerated
abbrev pub header_read_code : HeaderReadFault → Option ErrorCode
header_read_code (header_reads.Parse fault) = Some (header_code fault)
header_read_code (header_reads.IO fault) = None  -- RFC 9114, section 6.2

-- the error code of a capsule error, or None if allocation failed
abbrev pub capsule_code : CapsuleError → Option ErrorCode
capsule_code TooLong = Some Datagram  -- RFC 9297, section 5.2
capsule_code Memory = None
