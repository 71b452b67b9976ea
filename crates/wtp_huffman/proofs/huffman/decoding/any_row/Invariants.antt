use Rattle.std.proofs.Common.{ℕ, ◌<◌, ◌≤◌}
use Rattle.wtp_huffman.specs.HuffmanRows.{row_at}
use Rattle.wtp_huffman.proofs.huffman.decoding.any_row.Given as goal

abbrev pub invariant-loop-k : goal.invariant-loop-k
invariant-loop-k l = (j : ℕ) → j < l.k → (row_at j).limit ≤ l.window
