-- Error codes by number, and what they end (RFC 9114, sections 8 and 8.1).
use Rattle.std.specs.Prelude.{ℕ}
use Rattle.wtp_core.specs.declared.error.scope.ErrorScope.{ErrorScope}
use Rattle.wtp_core.specs.declared.error.scope.ErrorScope.TheVariants.{Stream, Connection}
use Rattle.wtp_frames.specs.declared.fault.Fault.{Fault}
use Rattle.wtp_frames.specs.declared.fault.Fault.TheVariants as fault

abbrev pub code_of : Fault → ℕ
code_of fault.ClosedCriticalStream = 0x0104
code_of fault.FrameUnexpected = 0x0105
code_of fault.Frame = 0x0106
code_of fault.ExcessiveLoad = 0x0107
code_of fault.TooManyInterim = 0x0107
code_of fault.Id = 0x0108
code_of fault.MissingSettings = 0x010a
code_of fault.RequestIncomplete = 0x010d
code_of fault.Message = 0x010e
code_of fault.StreamCreation = 0x0103
code_of fault.BufferedStreamRejected = 0x3994bd84
code_of fault.SessionGone = 0x170d7b68

-- an error of a message or of a session's stream ends its stream, every other one the connection
abbrev pub scope_of : Fault → ErrorScope
scope_of fault.RequestIncomplete = Stream
scope_of fault.Message = Stream
scope_of fault.TooManyInterim = Stream
scope_of fault.BufferedStreamRejected = Stream
scope_of fault.SessionGone = Stream
scope_of other = Connection
