use Rattle.std.proofs.Common.{◌≡◌, ◌≤◌, ◌<◌, ◌-◌, ◌/◌, ◌^◌, Bool, true, List, [], ◌∷◌, ◌++◌, length, rules, arith, ap, append-nil, sym, ◌∙◌, subst}
use Rattle.wtp_huffman.specs.Huffman.{bits_of, low_bits, IsPadding}
use Rattle.wtp_huffman.specs.HuffmanDecoding.{ReadsAfter, waiting_bits, IsWord, window_of}
use Rattle.wtp_huffman.proofs.HuffmanAscii.{none_ascii}
use Rattle.wtp_huffman.proofs.HuffmanBits.{low_bits_length}
use Rattle.wtp_huffman.proofs.HuffmanWindows.{moved_on, padding_from, padding_window}
use Rattle.wtp_huffman.proofs.HuffmanPairs.{takes_last}
use Rattle.wtp_huffman.proofs.HuffmanTable.{end_word}
use Rattle.wtp_huffman.proofs.HuffmanDecoding.{reads_none, reads_last, reads_on_after, reads_all, reads_end, no_bits, nothing_kept}
use Rattle.wtp_huffman.proofs.huffman.decoding.decode_to.Goals as goal

pub windows-init : goal.windows-init
unfolding low_bits
windows-init c =
    record {
      reads = record { decoded = []; appended = sym (append-nil c.args.out.now.items); reads = reads_none c.args.text.now; ascii = none_ascii };
      clear = (search rules);
      few = omega arith;
      start = omega arith;
      room = omega arith;
      same = (search rules);
    }

pub windows-preserved : goal.windows-preserved
windows-preserved c =
    let bits : List Bool = waiting_bits c.refill.result.2 c.refill.result.1 ++ bits_of c.refill.result.0.now in
    let P : List Bool → Type 0 = λ b. ReadsAfter c.args.out.now.items c.args.text.now c.windows.out.items c.windows.is_ascii b in
    let reads : P bits = subst P (sym c.refill.ensures.same) c.windows.invariant.reads in
    let step = c.in_ok-waiting.ensures.taken in
    record {
      reads = step.reads c.args.out.now.items c.args.text.now (bits_of c.refill.result.0.now) reads;
      clear = step.clear;
      few = omega (arith, step.fewer, c.refill.ensures.few);
      start = omega (arith, step.fewer, c.windows.invariant.start, c.refill.ensures.size);
      room = omega (arith, c.in_ok-waiting.ensures.room, c.windows.invariant.room, c.refill.ensures.size);
      same = c.take_words.ensures.same ∙ c.windows.invariant.same;
    }

pub returns-in_err-waiting-clause-only : goal.returns-in_err-waiting-clause-only
returns-in_err-waiting-clause-only c = λ t h.
    let bits : List Bool = waiting_bits c.refill.result.2 c.refill.result.1 ++ bits_of c.refill.result.0.now in
    let P : List Bool → Type 0 = λ b. ReadsAfter c.args.out.now.items c.args.text.now c.windows.out.items c.windows.is_ascii b in
    let reads : P bits = subst P (sym c.refill.ensures.same) c.windows.invariant.reads in
    let never = c.in_err-waiting.ensures.fails (c.args.text.now, reads.decoded, t, bits_of c.refill.result.0.now, reads.reads, h) in
    search rules

pub returns-in_err-waiting-clause-front : goal.returns-in_err-waiting-clause-front
returns-in_err-waiting-clause-front c =
    record { more = c.windows.invariant.reads.decoded; is = c.in_err-waiting.ensures.err ∙ c.windows.invariant.reads.appended }

pub last-init : goal.last-init
last-init c =
    let bits : List Bool = waiting_bits c.refill.result.2 c.refill.result.1 ++ bits_of c.refill.result.0.now in
    let P : List Bool → Type 0 = λ b. ReadsAfter c.args.out.now.items c.args.text.now c.windows.out.items c.windows.is_ascii b in
    let reads : P bits = subst P (sym c.refill.ensures.same) c.windows.invariant.reads in
    let none : length c.refill.result.0.now ≡ 0 = c.refill.ensures.enough c.if-held-lt-WINDOW.true in
    let alone : bits ≡ waiting_bits c.refill.result.2 c.refill.result.1 =
    ap (λ b. waiting_bits c.refill.result.2 c.refill.result.1 ++ b) (no_bits c.refill.result.0.now none) ∙ append-nil (waiting_bits c.refill.result.2 c.refill.result.1) in
    record {
      reads = subst P alone reads;
      clear = c.refill.ensures.clear;
      few = c.if-held-lt-WINDOW.true;
      start = omega (arith, c.windows.invariant.start, c.refill.ensures.size);
      room = omega (arith, c.windows.invariant.room, c.refill.ensures.size);
      same = c.windows.invariant.same;
    }

pub returns-then-is_padding-clause-found : goal.returns-then-is_padding-clause-found
returns-then-is_padding-clause-found c =
    let bits : List Bool = waiting_bits c.last.held c.last.waiting in
    let len : length bits ≡ c.last.held = low_bits_length c.last.held (c.last.waiting / 2 ^ (64 - c.last.held)) in
    let yes = c.is_padding.ensures.0 c.if-is_padding.true in
    let pad : IsPadding bits = padding_from bits (omega (arith, len, yes.0)) (sym c.last_window-window.ensures.value ∙ yes.1) in
    let so_far = c.last.invariant.reads in
    record { text = so_far.decoded; is_coded = (so_far.reads.bytes, bits, pad, so_far.reads.so_far); appended = so_far.appended; ascii = so_far.ascii }

pub returns-then-is_padding-clause-only : goal.returns-then-is_padding-clause-only
returns-then-is_padding-clause-only c = λ t h.
    let bits : List Bool = waiting_bits c.last.held c.last.waiting in
    let len : length bits ≡ c.last.held = low_bits_length c.last.held (c.last.waiting / 2 ^ (64 - c.last.held)) in
    let yes = c.is_padding.ensures.0 c.if-is_padding.true in
    let ones : window_of 30 bits ≡ 1073741823 = sym c.last_window-window.ensures.value ∙ yes.1 in
    let word : IsWord (window_of 30 bits) 30 256 = rw ones end_word in
    let so_far = c.last.invariant.reads in
    let all : t ≡ so_far.decoded = (reads_all _ _ bits _ _ so_far.reads word (omega (arith, len, yes.0)) t h).0 in
    so_far.appended ∙ ap (λ z. c.args.out.now.items ++ z) (sym all)

pub returns-then-is_padding-clause-front : goal.returns-then-is_padding-clause-front
returns-then-is_padding-clause-front c = record { more = c.last.invariant.reads.decoded; is = c.last.invariant.reads.appended }

pub returns-then-word-held-clause-only : goal.returns-then-word-held-clause-only
returns-then-word-held-clause-only c = λ t h.
    let bits : List Bool = waiting_bits c.last.held c.last.waiting in
    let len : length bits ≡ c.last.held = low_bits_length c.last.held (c.last.waiting / 2 ^ (64 - c.last.held)) in
    let word = rw c.last_window-window.ensures.value at c.word_at-word.ensures in
    let pad : IsPadding bits = (reads_all _ _ bits _ _ c.last.invariant.reads.reads word (omega (arith, len)) t h).1 in
    let yes = c.is_padding.ensures.1 (omega (arith, len, pad.0), c.last_window-window.ensures.value ∙ padding_window bits pad) in
    absurd cc

pub returns-then-word-held-clause-front : goal.returns-then-word-held-clause-front
returns-then-word-held-clause-front c = record { more = c.last.invariant.reads.decoded; is = c.last.invariant.reads.appended }

pub returns-then-word-held-clause-empty : goal.returns-then-word-held-clause-empty
returns-then-word-held-clause-empty c = λ e.
    let bits : List Bool = waiting_bits c.last.held c.last.waiting in
    let len : length bits ≡ c.last.held = low_bits_length c.last.held (c.last.waiting / 2 ^ (64 - c.last.held)) in
    let pad : IsPadding bits = nothing_kept bits (omega (arith, len, e, c.last.invariant.start)) in
    let yes = c.is_padding.ensures.1 (omega (arith, len, pad.0), c.last_window-window.ensures.value ∙ padding_window bits pad) in
    absurd cc

pub returns-in_err-byte_of-clause-only : goal.returns-in_err-byte_of-clause-only
returns-in_err-byte_of-clause-only c = λ t h.
    let bits : List Bool = waiting_bits c.last.held c.last.waiting in
    let len : length bits ≡ c.last.held = low_bits_length c.last.held (c.last.waiting / 2 ^ (64 - c.last.held)) in
    let word = rw c.last_window-window.ensures.value at c.word_at-word.ensures in
    absurd (omega (arith, reads_end _ _ bits _ _ c.last.invariant.reads.reads word (omega (arith, len)) t h, c.in_err-byte_of.ensures.1))

pub returns-in_err-byte_of-clause-front : goal.returns-in_err-byte_of-clause-front
returns-in_err-byte_of-clause-front c = record { more = c.last.invariant.reads.decoded; is = c.last.invariant.reads.appended }

pub last-preserved : goal.last-preserved
last-preserved c =
    let bits : List Bool = waiting_bits c.last.held c.last.waiting in
    let len : length bits ≡ c.last.held = low_bits_length c.last.held (c.last.waiting / 2 ^ (64 - c.last.held)) in
    let word = rw c.last_window-window.ensures.value at c.word_at-word.ensures in
    let enough : c.word_at-word.result.bits ≤ c.last.held = omega arith in
    let byte : c.word_at-word.result.symbol < 256 = omega (arith, c.in_ok-byte_of.ensures.0, c.in_ok-byte_of.ensures.1) in
    record {
      reads = reads_on_after (c.word_at-word.result.symbol ∷ []) (rw c.in_ok-byte_of.ensures.0 at c.push_any-is_ascii.ensures.items)
          (λ out r. reads_last _ _ c.last.held c.last.waiting _ _ r word enough (omega (arith, c.last.invariant.few)) c.last.invariant.clear byte)
          (rw c.in_ok-byte_of.ensures.0 at c.push_any-is_ascii.ensures.ascii) c.last.invariant.reads;
      clear = (moved_on c.word_at-word.result.bits c.last.held c.last.waiting enough (omega (arith, c.last.invariant.few)) c.last.invariant.clear).1;
      few = omega (arith, c.last.invariant.few);
      start = omega (arith, c.last.invariant.start);
      room = omega (arith, c.last.invariant.room, c.push_any-is_ascii.ensures.len, c.word_at-word.ensures.least, enough);
      same = c.push_any-is_ascii.ensures.same ∙ c.last.invariant.same;
    }

pub last-preserved-then-waiting-lt-SHORT_END : goal.last-preserved-then-waiting-lt-SHORT_END
last-preserved-then-waiting-lt-SHORT_END c =
    let step = c.take_short.ensures.taken c.last.is_ascii in
    record {
      reads = takes_last c.args.out.now.items c.args.text.now step c.last.invariant.reads;
      clear = step.clear;
      few = omega (arith, step.fewer, c.last.invariant.few);
      start = omega (arith, step.fewer, c.last.invariant.start);
      room = omega (arith, c.last.invariant.room, c.take_short.ensures.room);
      same = c.take_short.ensures.same ∙ c.last.invariant.same;
    }

pub last-smaller-then-waiting-lt-SHORT_END : goal.last-smaller-then-waiting-lt-SHORT_END
last-smaller-then-waiting-lt-SHORT_END c = (c.take_short.ensures.taken c.last.is_ascii).fewer
