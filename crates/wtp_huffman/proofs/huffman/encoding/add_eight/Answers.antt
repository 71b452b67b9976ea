use Rattle.std.proofs.Common.{arith}
use Rattle.wtp_huffman.proofs.HuffmanEncoding.{adds_length, err_by}
use Rattle.wtp_huffman.proofs.huffman.encoding.add_eight.Goals as goal

pub returns-clause-full : goal.returns-clause-full
returns-clause-full c =
    err_by c.add_four-2.result (λ less. omega (arith, less, adds_length _ _ _ _ _ _ _ _ c.in_ok-waiting.ensures.added, c.in_ok-waiting.ensures.capacity)) c.add_four-2.ensures.full
