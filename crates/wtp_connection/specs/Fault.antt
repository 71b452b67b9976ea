-- Error codes by number, and what they end (RFC 9114, sections 8 and 8.1; RFC 9204, section 6;
-- RFC 9297, sections 2.1 and 5.2).
use Rattle.std.specs.Prelude.{ℕ}
use Rattle.wtp_core.specs.declared.error.scope.ErrorScope.{ErrorScope}
use Rattle.wtp_core.specs.declared.error.scope.ErrorScope.TheVariants.{Connection}
use Rattle.wtp_frames.specs.Fault.{code_of as stream_code, scope_of as stream_scope}
use Rattle.wtp_connection.specs.declared.fault.Fault.{Fault}
use Rattle.wtp_connection.specs.declared.fault.Fault.TheVariants as fault

abbrev pub code_of : Fault → ℕ
code_of (fault.Stream f) = stream_code f
code_of fault.Settings = 0x0109
code_of fault.Capacity = 0x0202
code_of fault.EncoderStream = 0x0201
code_of fault.DecoderStream = 0x0202
code_of fault.Datagram = 0x0033

-- an invalid setting, instruction or datagram ends the connection
abbrev pub scope_of : Fault → ErrorScope
scope_of (fault.Stream f) = stream_scope f
scope_of other = Connection
