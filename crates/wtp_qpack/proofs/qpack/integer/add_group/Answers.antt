use Rattle.std.proofs.Common.{arith}
use Rattle.wtp_qpack.proofs.IntegerReading.{too_wide, too_high}
use Rattle.wtp_qpack.proofs.qpack.integer.add_group.Goals as goal
use Rattle.wtp_qpack.proofs.qpack.integer.add_group.Goals.{then-shift-ge64-via-then-shift-ge64, then-shift-ge64-via-else-shift-ge64+then-low-shift}

pub returns-then-shift-ge64 : goal.returns-then-shift-ge64
returns-then-shift-ge64 c = λ h. elim c.then-shift-ge64.branch [
  | then-shift-ge64-via-then-shift-ge64 w ↦ omega (arith, too_wide c.args.low c.args.shift (omega arith) w.if-shift-ge64.true)
  | then-shift-ge64-via-else-shift-ge64+then-low-shift w ↦ omega (arith, too_high c.args.low c.args.shift w.if-low-shift.true)
]
