use Rattle.std.proofs.Common.{arith}
use Rattle.wtp_qpack.proofs.IntegerWriting.{first_fits, only_int}
use Rattle.wtp_qpack.proofs.qpack.integer.only_byte.Goals as goal

pub overflow_cast-result : goal.overflow_cast-result
overflow_cast-result g c = record { fits = rw c.from.ensures (first_fits g.row.N c.args.flags c.ones.result c.args.value c.requires.few c.requires.above c.ones.ensures (omega (arith, c.requires.below, c.ones.ensures))) }

pub returns : goal.returns
returns g c = rw c.from.ensures (only_int g.row.N c.args.flags c.ones.result c.args.value c.ones.ensures (omega (arith, c.requires.below, c.ones.ensures)))
