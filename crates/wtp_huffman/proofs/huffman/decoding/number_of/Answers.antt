use Rattle.wtp_huffman.proofs.HuffmanBits.{four_bits}
use Rattle.wtp_huffman.proofs.huffman.decoding.number_of.Goals as goal

pub returns : goal.returns
returns c = four_bits c.from_be_bytes.result c.args.four.now c.told-four c.fits-four c.from_be_bytes.ensures c.from_be_bytes.type_inv
