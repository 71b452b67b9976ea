use Rattle.std.proofs.Common.{◌≡◌, ◌+◌, ◌*◌, ◌<◌, ◌^◌, length}
use Rattle.wtp_huffman.specs.Huffman.{text_code}
use Rattle.wtp_huffman.proofs.huffman.encoding.encoded_len.Given as goal

abbrev pub invariant-loop-rest : goal.invariant-loop-rest
invariant-loop-rest l =
    record {
      so_far : 8 * l.bytes + l.bits + length (text_code l.rest) ≡ length (text_code l.text);
      few : l.bits < 8;
      fits : l.bytes < 2 ^ 64;
    }

abbrev pub decreases-loop-rest : goal.decreases-loop-rest
decreases-loop-rest l = length l.rest
