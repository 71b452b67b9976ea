use Rattle.std.proofs.Common.{[], ◌∷◌}
use Rattle.wtp_huffman.proofs.HuffmanAscii.{pushed, other_in_front}
use Rattle.wtp_huffman.proofs.huffman.decoding.push_any.Goals as goal

pub returns-then-is_ascii-clause-ascii : goal.returns-then-is_ascii-clause-ascii
returns-then-is_ascii-clause-ascii c = λ text told. pushed c.args.byte text (rw c.if-is_ascii.true at told)

pub returns-else-is_ascii-clause-ascii : goal.returns-else-is_ascii-clause-ascii
returns-else-is_ascii-clause-ascii c = λ text told.
    let other = rw c.if-is_ascii.false at told in
    rw c.if-is_ascii.false (other_in_front text (c.args.byte ∷ []) other.0 other.1)
