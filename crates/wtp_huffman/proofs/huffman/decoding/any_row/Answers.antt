use Rattle.std.proofs.Common.{below_more, arith}
use Rattle.wtp_huffman.specs.HuffmanRows.{row_at}
use Rattle.wtp_huffman.proofs.HuffmanWindows.{row_found, some_row}
use Rattle.wtp_huffman.proofs.huffman.decoding.any_row.Goals as goal

pub returns-then-window-row : goal.returns-then-window-row
unfolding row_at
returns-then-window-row c = row_found c.args.window c.loop-k.k c.loop-k-test.true c.loop-k.invariant c.if-window-row.true

pub loop-k-preserved : goal.loop-k-preserved
unfolding row_at
loop-k-preserved c = below_more _ _ c.loop-k.invariant c.if-window-row.false

pub unreachable-requires : goal.unreachable-requires
unreachable-requires c = some_row c.args.window c.requires (λ j h. c.loop-k.invariant j (omega arith))
