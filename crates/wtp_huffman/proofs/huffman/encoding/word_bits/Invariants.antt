use Rattle.std.proofs.Common.{◌≡◌, ◌*◌, ◌≤◌, length, take}
use Rattle.wtp_huffman.specs.Huffman.{text_code}
use Rattle.wtp_huffman.proofs.huffman.encoding.word_bits.Given as goal

abbrev pub invariant-loop-byte : goal.invariant-loop-byte
invariant-loop-byte l =
    record {
      so_far : l.bits ≡ length (text_code (take l.byte-index l.text));
      few : l.bits ≤ 30 * l.byte-index;
    }
