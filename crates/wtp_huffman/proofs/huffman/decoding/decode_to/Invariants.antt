use Rattle.std.proofs.Common.{◌≡◌, ◌+◌, ◌*◌, ◌<◌, ◌≤◌, ◌++◌, length}
use Rattle.std.specs.Vec.{vec_len, vec_capacity}
use Rattle.wtp_huffman.specs.Huffman.{bits_of}
use Rattle.wtp_huffman.specs.HuffmanDecoding.{ReadsAfter, waiting_bits, IsClear}
use Rattle.wtp_huffman.proofs.huffman.decoding.decode_to.Given as goal

abbrev pub invariant-windows : goal.invariant-windows
invariant-windows l =
    record {
      reads : ReadsAfter l.fn.out.items l.text l.out.items l.is_ascii (waiting_bits l.held l.waiting ++ bits_of l.rest);
      clear : IsClear l.held l.waiting;
      few : l.held < 64;
      start : 8 * length l.rest + l.held ≤ 8 * length l.text;
      room : 5 * vec_len l.out + (8 * length l.rest + l.held) ≤ 5 * vec_len l.fn.out + 8 * length l.text;
      same : vec_capacity l.out ≡ vec_capacity l.fn.out;
    }

abbrev pub decreases-windows : goal.decreases-windows
decreases-windows l = 8 * length l.rest + l.held

abbrev pub invariant-last : goal.invariant-last
invariant-last l =
    record {
      reads : ReadsAfter l.fn.out.items l.text l.out.items l.is_ascii (waiting_bits l.held l.waiting);
      clear : IsClear l.held l.waiting;
      few : l.held < 30;
      start : l.held ≤ 8 * length l.text;
      room : 5 * vec_len l.out + l.held ≤ 5 * vec_len l.fn.out + 8 * length l.text;
      same : vec_capacity l.out ≡ vec_capacity l.fn.out;
    }

abbrev pub decreases-last : goal.decreases-last
decreases-last l = l.held
