use Rattle.std.proofs.Common.{rules}
use Rattle.wtp_huffman.proofs.huffman.decoding.append_decoded.Goals as goal

pub returns-clause-only : goal.returns-clause-only
returns-clause-only c = λ t h.
    let all = c.decode_to-is_ascii.ensures.only t h in
    search rules
