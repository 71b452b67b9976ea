use Rattle.std.proofs.Common.{arith}
use Rattle.wtp_huffman.proofs.HuffmanPairs.{takes_both}
use Rattle.wtp_huffman.proofs.huffman.decoding.take_words.Goals as goal

pub returns-then-waiting-ge-SHORT_END-2-clause-taken : goal.returns-then-waiting-ge-SHORT_END-2-clause-taken
returns-then-waiting-ge-SHORT_END-2-clause-taken c = c.take_short-waiting.ensures.taken c.args.is_ascii

pub take_short-waiting-requires-2-clause-few : goal.take_short-waiting-requires-2-clause-few
take_short-waiting-requires-2-clause-few c = omega (arith, (c.take_short-waiting.ensures.taken c.args.is_ascii).fewer, c.requires.few)

pub take_short-waiting-requires-2-clause-clear : goal.take_short-waiting-requires-2-clause-clear
take_short-waiting-requires-2-clause-clear c = (c.take_short-waiting.ensures.taken c.args.is_ascii).clear

pub returns-clause-taken : goal.returns-clause-taken
returns-clause-taken c = takes_both (c.take_short-waiting.ensures.taken c.args.is_ascii) (c.take_short-waiting-2.ensures.taken c.args.is_ascii)
