use Rattle.std.proofs.Common.{◌∙◌, arith}
use Rattle.wtp_huffman.proofs.HuffmanEncoding.{code_bits, code_some}
use Rattle.wtp_huffman.proofs.huffman.encoding.word.Goals as goal

pub returns-clause-bits : goal.returns-clause-bits
returns-clause-bits c = code_bits c.args.byte c.code_of-code.result.bits c.from.result c.code_of-code.ensures.bits (c.from.ensures ∙ c.code_of-code.ensures.number)

pub returns-clause-some : goal.returns-clause-some
returns-clause-some c = omega (arith, code_some c.args.byte (omega arith), c.code_of-code.ensures.bits)
