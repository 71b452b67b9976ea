-- The numbers of the error codes of faults (RFC 9204, section 6, for QPACK's streams).
use Rattle.std.specs.Prelude.{ℕ}
use Rattle.wtp_core.specs.ErrorCodes.{code_number}
use Rattle.wt_inspection_model.specs.declared.item.ending.FaultCode.{FaultCode}
use Rattle.wt_inspection_model.specs.declared.item.ending.FaultCode.TheVariants.{Library, EncoderStream, DecoderStream}

-- the number of the code of a fault
abbrev pub fault_number : FaultCode → ℕ
fault_number (Library code) = code_number code
fault_number EncoderStream = 0x201
fault_number DecoderStream = 0x202
