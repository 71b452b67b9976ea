use Rattle.std.proofs.Common.{arith, refl, take_all}
use Rattle.wtp_huffman.specs.Huffman.{text_code}
use Rattle.wtp_huffman.proofs.HuffmanLengths.{coded_more}
use Rattle.wtp_huffman.proofs.huffman.encoding.word_bits.Goals as goal

pub loop-byte-init : goal.loop-byte-init
unfolding text_code
loop-byte-init c = record { so_far = refl; few = omega arith }

pub loop-byte-preserved : goal.loop-byte-preserved
loop-byte-preserved c =
    record {
      so_far = omega (arith, coded_more c.args.text.now c.loop-byte.byte-index c.loop-byte-test.true, c.loop-byte.invariant.so_far, c.code_of.ensures.bits);
      few = omega (arith, c.loop-byte.invariant.few, c.code_of.ensures.most);
    }

pub returns-clause-value : goal.returns-clause-value
returns-clause-value c = rw (take_all c.loop-byte.byte-index c.args.text.now c.loop-byte-test.false) at c.loop-byte.invariant.so_far
