use Rattle.std.proofs.Common.{arith}
use Rattle.wtp_huffman.proofs.HuffmanEncoding.{begins_on}
use Rattle.wtp_qpack.proofs.IntegerWriting.{first_fits, writes_first, writes_more, writes_last}
use Rattle.wtp_qpack.proofs.qpack.integer.write.Goals as goal

pub overflow_cast-from : goal.overflow_cast-from
overflow_cast-from g c = record { fits = rw c.from.ensures (first_fits g.row.N c.args.flags c.ones-ones.result c.ones-ones.result c.requires.few c.requires.above c.ones-ones.ensures (omega arith)) }

pub returns-then-value-ones-clause-ok : goal.returns-then-value-ones-clause-ok
returns-then-value-ones-clause-ok g c = rw (← c.only_byte.ensures) c.in_ok-push.ensures.items

pub loop-left-init : goal.loop-left-init
loop-left-init g c =
    record {
      writes = writes_first g.row.N c.args.flags c.ones-ones.result c.args.value c.args.out.now.items _ c.ones-ones.ensures (omega arith) c.if-value-ones.false (rw (← c.from.ensures) c.in_ok-push-2.ensures.items);
      front = record { more = _; is = c.in_ok-push-2.ensures.items };
    }

pub loop-left-preserved : goal.loop-left-preserved
loop-left-preserved g c =
    record {
      writes = writes_more _ c.loop-left.out.items _ c.loop-left.left c.loop-left.invariant.writes c.loop-left-test.true c.in_ok-push-3.ensures.items;
      front = begins_on _ _ _ c.loop-left.invariant.front (record { more = _; is = c.in_ok-push-3.ensures.items });
    }

pub returns-clause-ok : goal.returns-clause-ok
returns-clause-ok g c = writes_last _ c.loop-left.out.items _ c.loop-left.left c.loop-left.invariant.writes c.loop-left-test.false c.in_ok-push-4.ensures.items
