use Rattle.std.proofs.Common.{arith}
use Rattle.wtp_huffman.proofs.HuffmanTable.{length_at, number_at, word_facts}
use Rattle.wtp_huffman.proofs.huffman.codes.code_of.Goals as goal

pub returns-clause-bits : goal.returns-clause-bits
returns-clause-bits c = length_at c.args.byte c.ranges.byte.fits

pub returns-clause-number : goal.returns-clause-number
returns-clause-number c = number_at c.args.byte c.ranges.byte.fits

pub returns-clause-most : goal.returns-clause-most
returns-clause-most c = omega (arith, length_at c.args.byte c.ranges.byte.fits, (word_facts c.args.byte (omega arith)).most)

pub returns-clause-fits : goal.returns-clause-fits
returns-clause-fits c = omega (arith, number_at c.args.byte c.ranges.byte.fits, (word_facts c.args.byte (omega arith)).fits)
