-- What an endpoint closes after an error (RFC 9114, sections 6.2 and 8).
use Rattle.std.specs.Prelude.{ℕ, List, Option, Some, None}
use Rattle.wtransport_proto.specs.declared.error.ErrorCode.{ErrorCode}
use Rattle.wtransport_proto.specs.declared.error.ErrorCode.TheVariants.{Datagram}
use Rattle.wtransport_proto.specs.declared.error.ErrorScope.{ErrorScope}
use Rattle.wtransport_proto.specs.declared.error.ErrorScope.TheVariants as scope
use Rattle.wtransport_proto.specs.declared.stream.error.IoReadError.{IoReadError}
use Rattle.wtransport_proto.specs.declared.stream.error.IoReadError.TheVariants.{H3, IO}
use Rattle.wtransport_proto.specs.ErrorCodes.{code_number}
use Rattle.wtransport_proto.specs.ErrorScope.{scope_of}
use Rattle.wt_single_streams.specs.declared.closing.Closing.{Closing}
use Rattle.wt_single_streams.specs.declared.closing.Closing.TheVariants.{Nothing, Stream, Connection}

-- what is closed, with an error code of this number: a code that may end either ends the connection
abbrev pub closing_with : ErrorScope → ℕ → Closing
closing_with scope.Stream number = Stream number
closing_with scope.Connection number = Connection number
closing_with scope.Either number = Connection number

-- what is closed for an error code
abbrev pub closing_for : ErrorCode → Closing
closing_for code = closing_with (scope_of code) (code_number code)

-- what is closed after an error in the frames of a stream: nothing where the source failed
abbrev pub closing_after : IoReadError → Closing
closing_after (H3 code) = closing_for code
closing_after (IO fault) = Nothing

-- what is closed after a datagram
abbrev pub datagram_closing : Option (ℕ × List ℕ) → Closing
datagram_closing None = closing_for Datagram
datagram_closing (Some datagram) = Nothing
