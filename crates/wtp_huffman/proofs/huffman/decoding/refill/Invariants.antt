use Rattle.std.proofs.Common.{◌≡◌, ◌+◌, ◌*◌, ◌<◌, ◌++◌, length}
use Rattle.wtp_huffman.specs.Huffman.{bits_of}
use Rattle.wtp_huffman.specs.HuffmanDecoding.{waiting_bits, IsClear}
use Rattle.wtp_huffman.proofs.huffman.decoding.refill.Given as goal

abbrev pub invariant-loop-held : goal.invariant-loop-held
invariant-loop-held l =
    record {
      same : waiting_bits l.held l.waiting ++ bits_of l.rest ≡ waiting_bits l.fn.held l.fn.waiting ++ bits_of l.fn.rest;
      clear : IsClear l.held l.waiting;
      few : l.held < 64;
      size : 8 * length l.rest + l.held ≡ 8 * length l.fn.rest + l.fn.held;
    }

abbrev pub decreases-loop-held : goal.decreases-loop-held
decreases-loop-held l = length l.rest
