use Rattle.std.proofs.Common.{take, ◌≤◌}
use Rattle.std.specs.Vec.{vec_capacity}
use Rattle.wtp_huffman.specs.Huffman.{text_code}
use Rattle.wtp_huffman.specs.HuffmanEncoding.{Adds, BeginsWith}
use Rattle.wtp_huffman.proofs.huffman.encoding.add_each.Given as goal

abbrev pub invariant-loop-byte : goal.invariant-loop-byte
invariant-loop-byte l =
    record {
      added : Adds 8 (text_code (take l.byte-index l.four)) l.fn.out.items l.fn.waiting.count l.fn.waiting.number l.out.items l.waiting.count l.waiting.number;
      front : BeginsWith l.fn.out.items l.out.items;
      capacity : vec_capacity l.fn.out ≤ vec_capacity l.out;
    }
