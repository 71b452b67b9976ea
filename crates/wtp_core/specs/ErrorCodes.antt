-- The numbers and printed names of error codes (RFC 9114, section 8.1; RFC 9297, section 5.2; RFC
-- 9204, section 6; WebTransport over HTTP/3).
use Rattle.std.specs.Prelude.{ℕ, List, ◌++◌, codes}
use Rattle.std.specs.Fmt.{decimal}
use Rattle.wtp_core.specs.declared.error.ErrorCode.{ErrorCode}
use Rattle.wtp_core.specs.declared.error.ErrorCode.TheVariants.{Datagram, NoError, StreamCreation, ClosedCriticalStream, FrameUnexpected, Frame, ExcessiveLoad, Id, Settings, MissingSettings, RequestRejected, Message, Decompression, BufferedStreamRejected, SessionGone}

-- the number of an error code on the wire
abbrev pub code_number : ErrorCode → ℕ
code_number Datagram = 0x33
code_number NoError = 0x0100
code_number StreamCreation = 0x0103
code_number ClosedCriticalStream = 0x0104
code_number FrameUnexpected = 0x0105
code_number Frame = 0x0106
code_number ExcessiveLoad = 0x0107
code_number Id = 0x0108
code_number Settings = 0x0109
code_number MissingSettings = 0x010a
code_number RequestRejected = 0x010b
code_number Message = 0x010e
code_number Decompression = 0x0200
code_number BufferedStreamRejected = 0x3994bd84
code_number SessionGone = 0x170d7b68

-- the name of an error code, as Display prints it
abbrev pub name_of : ErrorCode → List ℕ
name_of Datagram = codes "DatagramError"
name_of NoError = codes "NoError"
name_of StreamCreation = codes "StreamCreationError"
name_of ClosedCriticalStream = codes "ClosedCriticalStreamError"
name_of FrameUnexpected = codes "FrameUnexpectedError"
name_of Frame = codes "FrameError"
name_of ExcessiveLoad = codes "ExcessiveLoad"
name_of Id = codes "IdError"
name_of Settings = codes "SettingsError"
name_of MissingSettings = codes "MissingSettingsError"
name_of RequestRejected = codes "RequestRejectedError"
name_of Message = codes "MessageError"
name_of Decompression = codes "DecompressionError"
name_of BufferedStreamRejected = codes "BufferedStreamRejected"
name_of SessionGone = codes "SessionGone"

-- the name and number of an error code, as Debug prints them
abbrev pub debug_text_of : ErrorCode → List ℕ
debug_text_of code = name_of code ++ codes " (code: " ++ decimal (code_number code) ++ codes ")"
