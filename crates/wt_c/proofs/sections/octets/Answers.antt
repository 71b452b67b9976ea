use Rattle.std.proofs.Common.{rules, arith}
use Rattle.wtp_huffman.proofs.HuffmanEncoding.{IsBytes_from}
use Rattle.wt_c.proofs.sections.octets.Goals as goal

pub returns-clause-octets : goal.returns-clause-octets
returns-clause-octets c = record { bytes = IsBytes_from _ (λ i. omega (arith, c.type_inv.bytes i)); few = search rules }
