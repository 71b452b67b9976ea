use Rattle.std.proofs.Common.{arith}
use Rattle.wtp_huffman.proofs.HuffmanEncoding.{IsBytes_from}
use Rattle.wtp_dynamic_encoder.proofs.choice.are_octets.Goals as goal

pub returns : goal.returns
returns c = record { bytes = IsBytes_from _ (λ i. omega (arith, c.type_inv.text i)); few = omega arith }
