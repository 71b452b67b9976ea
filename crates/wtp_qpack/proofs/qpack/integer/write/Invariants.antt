use Rattle.std.proofs.Common.{◌++◌}
use Rattle.wtp_huffman.specs.HuffmanEncoding.{BeginsWith}
use Rattle.wtp_qpack.specs.Integer.{shortest_int}
use Rattle.wtp_qpack.proofs.IntegerWriting.{Writes}
use Rattle.wtp_qpack.proofs.qpack.integer.write.Given as goal

abbrev pub invariant-loop-left : goal.invariant-loop-left
invariant-loop-left g l =
    record {
      writes : Writes (l.fn.out.items ++ shortest_int g.row.N l.fn.flags l.fn.value) l.out.items l.left;
      front : BeginsWith l.fn.out.items l.out.items;
    }

abbrev pub decreases-loop-left : goal.decreases-loop-left
decreases-loop-left g l = l.left
