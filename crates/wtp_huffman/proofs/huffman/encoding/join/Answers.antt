use Rattle.std.proofs.Common.{arith}
use Rattle.wtp_huffman.proofs.HuffmanEncoding.{joined_below, joined_bits, joined_whole}
use Rattle.wtp_huffman.proofs.huffman.encoding.join.Goals as goal

pub overflow_add-result-2 : goal.overflow_add-result-2
overflow_add-result-2 c = omega (arith, joined_below c.args.back.count c.args.front.number c.args.back.number (omega (arith, c.requires.fewer)) c.requires.fits)

pub returns-clause-bits : goal.returns-clause-bits
returns-clause-bits c = λ h. joined_bits c.args.front.count c.args.back.count c.args.front.number c.args.back.number h c.requires.fits

pub returns-clause-fits : goal.returns-clause-fits
returns-clause-fits c = λ h fits. joined_whole c.args.front.count c.args.back.count c.args.front.number c.args.back.number h fits c.requires.fits
