use Rattle.std.proofs.Common.{arith}
use Rattle.wtp_huffman.proofs.HuffmanEncoding.{IsBytes_from}
use Rattle.wtp_huffman.proofs.huffman.encoding.are_bytes.Goals as goal

pub returns : goal.returns
returns c = IsBytes_from _ (λ i. omega (arith, c.type_inv.bytes i))
