use Rattle.std.proofs.Common.{◌≡◌, ◌≤◌, ◌<◌, ◌-◌, ◌/◌, ◌^◌, Bool, List, [], ◌∷◌, ◌++◌, length, rules, arith}
use Rattle.wtp_huffman.specs.HuffmanDecoding.{waiting_bits, window_of}
use Rattle.wtp_huffman.proofs.HuffmanBits.{low_bits_length}
use Rattle.wtp_huffman.proofs.HuffmanWindows.{whole_window, moved_on}
use Rattle.wtp_huffman.proofs.HuffmanDecoding.{reads_on, reads_on_after, reads_end}
use Rattle.std.proofs.lemmas.List.{length-append}
use Rattle.wtp_huffman.proofs.huffman.decoding.take_word.Goals as goal

pub returns-in_err-byte_of-clause-fails : goal.returns-in_err-byte_of-clause-fails
returns-in_err-byte_of-clause-fails c = λ (s, out, t, behind, d, h).
    let small : c.args.waiting < 2 ^ 64 = search rules in
    let bits : List Bool = waiting_bits c.args.held c.args.waiting ++ behind in
    let v : c.args.waiting / 17179869184 ≡ window_of 30 bits = (whole_window c.args.held c.args.waiting behind c.requires.enough (omega (arith, c.requires.few)) small).0 in
    let word = rw v at c.word_at-word.ensures in
    let long : 30 ≤ length bits = omega (arith, length-append (waiting_bits c.args.held c.args.waiting) behind, low_bits_length c.args.held (c.args.waiting / 2 ^ (64 - c.args.held)), c.requires.enough) in
    absurd (omega (arith, reads_end _ _ bits _ _ d word (omega (arith, long, c.word_at-word.ensures.most)) t h, c.in_err-byte_of.ensures.1))

pub returns-clause-taken : goal.returns-clause-taken
returns-clause-taken c =
    let small : c.args.waiting < 2 ^ 64 = search rules in
    let enough : c.word_at-word.result.bits ≤ c.args.held = omega (arith, c.word_at-word.ensures.most, c.requires.enough) in
    let byte : c.word_at-word.result.symbol < 256 = omega (arith, c.in_ok-byte_of.ensures.0, c.in_ok-byte_of.ensures.1) in
    record {
      reads = λ front text behind d.
          let bits : List Bool = waiting_bits c.args.held c.args.waiting ++ behind in
          let v : c.args.waiting / 17179869184 ≡ window_of 30 bits = (whole_window c.args.held c.args.waiting behind c.requires.enough (omega (arith, c.requires.few)) small).0 in
          let word = rw v at c.word_at-word.ensures in
          let ascii = rw c.in_ok-byte_of.ensures.0 at c.push_any-is_ascii.ensures.ascii in
          reads_on_after (c.word_at-word.result.symbol ∷ []) (rw c.in_ok-byte_of.ensures.0 at c.push_any-is_ascii.ensures.items)
          (λ out r. reads_on _ _ c.args.held c.args.waiting _ _ behind r word enough (omega (arith, c.requires.few)) c.requires.clear byte)
          ascii d;
      clear = (moved_on c.word_at-word.result.bits c.args.held c.args.waiting enough (omega (arith, c.requires.few)) c.requires.clear).1;
      fewer = omega (arith, c.word_at-word.ensures.least, c.requires.enough);
    }
