use Rattle.std.proofs.Common.{ap, ◌%◌, ◌+◌}
use Rattle.wtp_qpack.proofs.IntegerReading.{int_none, int_long, int_short}
use Rattle.wtp_qpack.proofs.qpack.integer.read.Goals as goal

pub returns-in-empty : goal.returns-in-empty
returns-in-empty g c = int_none g.row.N c.args.bytes.now c.in-empty.len_below

pub returns-then-value-ones : goal.returns-then-value-ones
returns-then-value-ones g c =
    rw (int_long g.row.N c.ones-ones.result _ c.args.bytes.now c.ones-ones.ensures c.in-len1-up.len_at_least (ap (λ b. b % (c.ones-ones.result + 1)) c.from.ensures) c.if-value-ones.true, ← c.split_at.ensures.back) c.read_groups.ensures

pub returns-else-value-ones : goal.returns-else-value-ones
returns-else-value-ones g c =
    rw (c.split_at.ensures.back) (int_short g.row.N c.ones-ones.result _ c.args.bytes.now c.ones-ones.ensures c.in-len1-up.len_at_least (ap (λ b. b % (c.ones-ones.result + 1)) c.from.ensures) c.if-value-ones.false)
