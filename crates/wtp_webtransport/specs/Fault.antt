-- Error codes by number, and what they end (RFC 9114, section 8.1; RFC 9204, section 6).
use Rattle.std.specs.Prelude.{ℕ}
use Rattle.wtp_core.specs.declared.error.scope.ErrorScope.{ErrorScope}
use Rattle.wtp_core.specs.declared.error.scope.ErrorScope.TheVariants.{Connection, Stream}
use Rattle.wtp_connection.specs.Fault.{code_of as streams_code, scope_of as streams_scope}
use Rattle.wtp_dynamic.specs.declared.error.EncoderStreamError.{EncoderStreamError}
use Rattle.wtp_dynamic.specs.declared.error.EncoderStreamError.TheVariants as instruction
use Rattle.wtp_webtransport.specs.declared.fault.Fault.{Fault}
use Rattle.wtp_webtransport.specs.declared.fault.Fault.TheVariants as fault

-- an instruction that is wrong, or for which there was no memory
abbrev pub instruction_code : EncoderStreamError → ℕ
instruction_code instruction.Memory = 0x0102
instruction_code other = 0x0201

abbrev pub code_of : Fault → ℕ
code_of (fault.Streams f) = streams_code f
code_of (fault.Section e) = 0x0200
code_of fault.SectionPrefix = 0x0200
code_of (fault.TableSection e) = 0x0200
code_of (fault.Instructions e) = instruction_code e
code_of fault.Capsule = 0x010e
code_of fault.Rejected = 0x010b

-- a section that cannot be decoded ends the connection; a capsule that is invalid makes the message
-- malformed
abbrev pub scope_of : Fault → ErrorScope
scope_of (fault.Streams f) = streams_scope f
scope_of fault.Capsule = Stream
scope_of fault.Rejected = Stream
scope_of other = Connection
