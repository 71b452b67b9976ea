use Rattle.std.proofs.Common.{arith, refl}
use Rattle.wtp_huffman.proofs.HuffmanEncoding.{adds_both, adds_length, on_err, adds_joined, adds_none, begins_on, begins_same, coded_more}
use Rattle.wtp_huffman.proofs.HuffmanLengths.{coded_split}
use Rattle.wtp_huffman.proofs.huffman.encoding.add_each.Goals as goal

pub loop-byte-init : goal.loop-byte-init
loop-byte-init c = record { added = adds_none c.args.out.now.items c.args.waiting.count c.args.waiting.number c.requires.few; front = begins_same _ _ refl; capacity = omega arith }

pub loop-byte-preserved : goal.loop-byte-preserved
loop-byte-preserved c =
    let bits = rw c.word.ensures.bits at (c.join.ensures.bits (omega (arith, c.join.ensures.count, c.word.ensures.most, c.loop-byte.invariant.added.few))) in
    let next = adds_joined _ c.loop-byte.out.items _ c.loop-byte.waiting.count c.loop-byte.waiting.number c.join.result.count c.join.result.number _ _ bits c.in_ok-waiting.ensures.kept in
    record { added = rw (coded_more c.loop-byte.byte-index c.args.four.now (omega arith)) (adds_both _ _ _ _ _ _ _ _ _ _ _ c.loop-byte.invariant.added next); front = begins_on _ _ _ c.loop-byte.invariant.front c.give_whole.ensures.front; capacity = omega (arith, c.loop-byte.invariant.capacity, c.give_whole.ensures.capacity) }

pub returns-in_err-waiting-clause-full : goal.returns-in_err-waiting-clause-full
returns-in_err-waiting-clause-full c =
    on_err c.from_residual.result
    (omega (arith, adds_length _ _ _ _ _ _ _ _ c.loop-byte.invariant.added, coded_split c.args.four.now c.loop-byte.byte-index, c.loop-byte.invariant.capacity, c.in_err-waiting.ensures.full))
