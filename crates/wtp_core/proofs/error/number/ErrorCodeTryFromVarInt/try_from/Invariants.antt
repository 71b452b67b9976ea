use Rattle.std.proofs.Common.{◌≢◌, ℕ, ◌<◌, get_or}
use Rattle.wtp_core.specs.declared.error.ErrorCode.TheVariants.{Datagram}
use Rattle.wtp_core.specs.ErrorCodes.{code_number}
use Rattle.wtp_core.proofs.error.number.ErrorCodeTryFromVarInt.try_from.Given as goal

abbrev pub invariant-loop-code : goal.invariant-loop-code
invariant-loop-code l = (j : ℕ) → j < l.code-index → l.number ≢ code_number (get_or l.code-items j Datagram)
