use Rattle.wtp_huffman.proofs.huffman.decoding.decode_into.Goals as goal

pub returns-clause-only : goal.returns-clause-only
returns-clause-only c = λ t h. rw c.clear.ensures.items at (c.append_decoded.ensures.only t h)
