use Rattle.std.proofs.Common.{arith, sym, ◌∙◌}
use Rattle.wtp_qpack.proofs.IntegerReading.{over_at, last_at, more_at, end_at}
use Rattle.wtp_qpack.proofs.qpack.integer.read_groups.Goals as goal

pub returns-in-None : goal.returns-in-None
returns-in-None c = sym c.loop-k.invariant.so_far ∙ over_at c.loop-k.value c.from.result c.loop-k.k c.loop-k.shift c.args.bytes.now c.loop-k-test.true c.from.ensures c.loop-k.invariant.capped c.in-None.ensures

pub returns-then-group-lt128 : goal.returns-then-group-lt128
returns-then-group-lt128 c = rw c.split_at.ensures.back (sym c.loop-k.invariant.so_far ∙ last_at c.loop-k.value c.from.result c.in-Some.more c.loop-k.k c.loop-k.shift c.args.bytes.now c.loop-k-test.true c.from.ensures c.loop-k.invariant.capped c.in-Some.ensures c.if-group-lt128.true)

pub returns : goal.returns
returns c = sym c.loop-k.invariant.so_far ∙ end_at c.loop-k.value c.loop-k.k c.args.bytes.now c.loop-k-test.false

pub loop-k-preserved : goal.loop-k-preserved
loop-k-preserved c = record {
  so_far = sym (more_at c.loop-k.value c.from.result c.in-Some.more c.loop-k.k c.loop-k.shift c.args.bytes.now c.loop-k-test.true c.from.ensures c.loop-k.invariant.capped c.in-Some.ensures c.if-group-lt128.false) ∙ c.loop-k.invariant.so_far;
  capped = omega (arith, c.min-shift.ensures);
}
