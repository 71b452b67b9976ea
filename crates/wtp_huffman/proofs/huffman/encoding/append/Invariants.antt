use Rattle.std.proofs.Common.{◌≡◌, ◌++◌, ◌<◌, ◌≤◌, length, drop}
use Rattle.std.specs.Vec.{vec_capacity}
use Rattle.wtp_huffman.specs.Huffman.{bits_of, low_bits, text_code}
use Rattle.wtp_huffman.specs.HuffmanEncoding.{BeginsWith}
use Rattle.wtp_huffman.proofs.huffman.encoding.append.Given as goal

abbrev pub invariant-loop-four : goal.invariant-loop-four
invariant-loop-four l =
    record {
      same : bits_of l.fn.out.items ++ text_code l.text ≡ bits_of l.out.items ++ (low_bits l.waiting.count l.waiting.number ++ text_code l.rest);
      few : l.waiting.count < 8;
      size : length l.rest ≤ length l.text;
      none : length l.text ≡ 0 → l.waiting.count ≡ 0;
      front : BeginsWith l.fn.out.items l.out.items;
      capacity : vec_capacity l.fn.out ≤ vec_capacity l.out;
    }

abbrev pub decreases-loop-four : goal.decreases-loop-four
decreases-loop-four l = length l.rest

abbrev pub invariant-loop-byte : goal.invariant-loop-byte
invariant-loop-byte l =
    record {
      same : bits_of l.fn.out.items ++ text_code l.text ≡ bits_of l.out.items ++ (low_bits l.waiting.count l.waiting.number ++ text_code (drop l.byte-index l.byte-items));
      few : l.waiting.count < 64;
      size : length l.byte-items ≤ length l.text;
      none : length l.text ≡ 0 → l.waiting.count ≡ 0;
      front : BeginsWith l.fn.out.items l.out.items;
      capacity : vec_capacity l.fn.out ≤ vec_capacity l.out;
    }
