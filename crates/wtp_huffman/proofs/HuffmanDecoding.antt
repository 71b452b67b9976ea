-- The steps of the decoder over the waiting bits.
use Rattle.std.proofs.Common.{Bool, List, [], ap, append-nil, append_assoc, arith, drop, length, refl, subst, suc, sym, zero, ℕ, ◌%◌, ◌*◌, ◌++◌, ◌+◌, ◌-◌, ◌/◌, ◌<◌, ◌^◌, ◌∙◌, ◌∷◌, ◌≡◌, ◌≤◌}
use Rattle.std.proofs.Math.Nat.{suc-add, zero-add}
use Rattle.std.proofs.lemmas.List.{length-append}
use Rattle.wtp_huffman.specs.Huffman.{IsBytes, IsHuffman, IsPadding, bits_of, code, text_code, low_bits}
use Rattle.wtp_huffman.specs.HuffmanRows.{row_at}
use Rattle.wtp_huffman.specs.HuffmanDecoding.{Reads, ReadsAfter, TellsAscii, waiting_bits, IsClear, IsWord, window_of, symbol_in}
use Rattle.wtp_huffman.proofs.HuffmanBits.{bits_append, length_bits, low_bits_length}
use Rattle.wtp_huffman.proofs.HuffmanWindows.{moved_on, shifted_in}
use Rattle.wtp_huffman.proofs.HuffmanWords.{coded_end, coded_word, word_in_front}

-- ---- bytes added to the waiting bits

pub byte_in : (held m w byte : ℕ) (behind : List ℕ) → held + 8 + m ≡ 64 → w < 2 ^ 64 → IsClear held w → byte < 256
    → waiting_bits (held + 8) (w + byte * 2 ^ m % 18446744073709551616) ++ bits_of behind ≡ waiting_bits held w ++ bits_of (byte ∷ behind)
unfolding bits_of
byte_in held m w byte behind total small clear fits =
    rw (shifted_in held 8 m w byte total small clear fits).2 (append_assoc (waiting_bits held w) (low_bits 8 byte) (bits_of behind))

pub four_in : (held m w n : ℕ) (four behind : List ℕ) → held + 32 + m ≡ 64 → w < 2 ^ 64 → IsClear held w → bits_of four ≡ low_bits 32 n → n < 2 ^ 32
    → waiting_bits (held + 32) (w + n * 2 ^ m % 18446744073709551616) ++ bits_of behind ≡ waiting_bits held w ++ bits_of (four ++ behind)
four_in held m w n four behind total small clear same fits =
    rw ((shifted_in held 32 m w n total small clear fits).2, bits_append four behind, same) (append_assoc (waiting_bits held w) (low_bits 32 n) (bits_of behind))

drop_part : (b k w : ℕ) (r : List Bool) → drop b (low_bits (b + k) w ++ r) ≡ low_bits k w ++ r
unfolding low_bits
drop_part zero k w r = rw (zero-add k) refl
drop_part (suc b) k w r = rw (suc-add b k) (drop_part b k w r)

pub drop_held : (b held w : ℕ) (r : List Bool) → b ≤ held → drop b (low_bits held w ++ r) ≡ low_bits (held - b) w ++ r
drop_held b held w r h =
    let total : b + (held - b) ≡ held = omega arith in
    ap (λ n. drop b (low_bits n w ++ r)) (sym total) ∙ drop_part b (held - b) w r

-- ---- texts

pub coded_append : (xs ys : List ℕ) → text_code (xs ++ ys) ≡ text_code xs ++ text_code ys
unfolding text_code
coded_append [] ys = refl
coded_append (x ∷ xs) ys = rw (coded_append xs ys) (sym (append_assoc (code x) (text_code xs) (text_code ys)))

pub coded_one : (x : ℕ) → text_code (x ∷ []) ≡ code x
unfolding text_code
coded_one x = append-nil (code x)

pub bytes_push : (xs : List ℕ) (x : ℕ) → IsBytes xs → x < 256 → IsBytes (xs ++ x ∷ [])
bytes_push [] x h small = (small, tt)
bytes_push (y ∷ ys) x h small = (h.0, bytes_push ys x h.1 small)

-- ---- the progress of the decoder

pub reads_none : (text : List ℕ) → Reads text [] (bits_of text)
unfolding text_code
reads_none text = record { bytes = tt; so_far = refl; each = λ t h. (t, refl, h) }

-- the same after other bytes: more bytes were decoded and appended
pub reads_on_after : {front text old new : List ℕ} {was_ascii is_ascii : Bool} {bits left : List Bool} (more : List ℕ) → new ≡ old ++ more
    → ((out : List ℕ) → Reads text out bits → Reads text (out ++ more) left)
    → ((out : List ℕ) → TellsAscii was_ascii out → TellsAscii is_ascii (out ++ more))
    → ReadsAfter front text old was_ascii bits → ReadsAfter front text new is_ascii left
reads_on_after {front} more appended reads ascii d =
    record {
      decoded = d.decoded ++ more;
      appended = appended ∙ ap (λ z. z ++ more) d.appended ∙ append_assoc front d.decoded more;
      reads = reads d.decoded d.reads;
      ascii = ascii d.decoded d.ascii;
    }

pub reads_more : (text out : List ℕ) (bits : List Bool) (n symbol : ℕ) → Reads text out bits → IsWord (window_of 30 bits) n symbol → n ≤ length bits → symbol < 256
    → Reads text (out ++ symbol ∷ []) (drop n bits)
reads_more text out bits n symbol d w enough small =
    let long : (row_at w.row).bits ≤ length bits = omega (arith, w.bits_are) in
    let place : drop n bits ≡ drop (row_at w.row).bits bits = ap (λ k. drop k bits) w.bits_are in
    let word : bits ≡ code (symbol_in (window_of 30 bits) w.row) ++ drop (row_at w.row).bits bits = word_in_front bits w.row w.in_row long in
    let more : text_code (out ++ symbol ∷ []) ≡ text_code out ++ code symbol = coded_append out (symbol ∷ []) ∙ ap (λ z. text_code out ++ z) (coded_one symbol) in
    record {
      bytes = bytes_push out symbol d.bytes small;
      so_far = d.so_far ∙ ap (λ z. text_code out ++ z) (word ∙ ap (λ x. code x ++ drop (row_at w.row).bits bits) (sym w.symbol_is))
          ∙ rw (more, place) (sym (append_assoc (text_code out) (code symbol) (drop (row_at w.row).bits bits)));
      each = λ t h.
          let left = d.each t h in
          let one = coded_word left.0 bits w.row w.in_row long left.2 in
          let joined : t ≡ (out ++ symbol ∷ []) ++ one.0 = left.1 ∙ ap (λ z. out ++ z) (one.1 ∙ ap (λ x. x ∷ one.0) (sym w.symbol_is)) ∙ sym (append_assoc out (symbol ∷ []) one.0) in
          (one.0, joined, rw place one.3);
    }

pub reads_all : (text out : List ℕ) (bits : List Bool) (n symbol : ℕ) → Reads text out bits → IsWord (window_of 30 bits) n symbol
    → length bits < n → (t : List ℕ) → IsHuffman t text → (t ≡ out) × IsPadding bits
reads_all text out bits n symbol d w few t h =
    let left = d.each t h in
    let short : length bits < (row_at w.row).bits = omega (arith, w.bits_are) in
    let ends = coded_end left.0 bits w.row w.in_row short left.2 in
    (left.1 ∙ rw ends.0 (append-nil out), ends.1)

pub reads_end : (text out : List ℕ) (bits : List Bool) (n symbol : ℕ) → Reads text out bits → IsWord (window_of 30 bits) n symbol
    → n ≤ length bits → (t : List ℕ) → IsHuffman t text → symbol < 256
reads_end text out bits n symbol d w enough t h =
    let left = d.each t h in
    let long : (row_at w.row).bits ≤ length bits = omega (arith, w.bits_are) in
    let one = coded_word left.0 bits w.row w.in_row long left.2 in
    rw w.symbol_is one.2

-- ---- the bits that are left

-- decoding the word at the start of the waiting bits
pub reads_on : (text out : List ℕ) (held w bits symbol : ℕ) (behind : List Bool) → Reads text out (waiting_bits held w ++ behind)
    → IsWord (window_of 30 (waiting_bits held w ++ behind)) bits symbol → bits ≤ held → held ≤ 64 → IsClear held w → symbol < 256
    → Reads text (out ++ symbol ∷ []) (waiting_bits (held - bits) (w * 2 ^ bits % 18446744073709551616) ++ behind)
reads_on text out held w bits symbol behind d word enough most clear small =
    let all : List Bool = waiting_bits held w ++ behind in
    let v : ℕ = w / 2 ^ (64 - held) in
    let long : bits ≤ length all = omega (arith, length-append (waiting_bits held w) behind, low_bits_length held v) in
    let next = reads_more text out all bits symbol d word long small in
    let place : drop bits all ≡ low_bits (held - bits) v ++ behind = drop_held bits held v behind enough in
    let moved : low_bits (held - bits) v ≡ waiting_bits (held - bits) (w * 2 ^ bits % 18446744073709551616) = sym (moved_on bits held w enough most clear).0 in
    let P : List Bool → Type 0 = λ b. Reads text (out ++ symbol ∷ []) b in
    subst P (place ∙ ap (λ b. b ++ behind) moved) next

-- the same, where no bits follow them
pub reads_last : (text out : List ℕ) (held w bits symbol : ℕ) → Reads text out (waiting_bits held w)
    → IsWord (window_of 30 (waiting_bits held w)) bits symbol → bits ≤ held → held ≤ 64 → IsClear held w → symbol < 256
    → Reads text (out ++ symbol ∷ []) (waiting_bits (held - bits) (w * 2 ^ bits % 18446744073709551616))
reads_last text out held w bits symbol d word enough most clear small =
    let P : List Bool → Type 0 = λ b. Reads text out b in
    let Q : List Bool → Type 0 = λ b. IsWord (window_of 30 b) bits symbol in
    let R : List Bool → Type 0 = λ b. Reads text (out ++ symbol ∷ []) b in
    let none : waiting_bits held w ≡ waiting_bits held w ++ [] = sym (append-nil (waiting_bits held w)) in
    subst R (append-nil (waiting_bits (held - bits) (w * 2 ^ bits % 18446744073709551616))) (reads_on text out held w bits symbol [] (subst P none d) (subst Q none word) enough most clear small)

pub kept_length : (held w : ℕ) (rest : List ℕ) → length (low_bits held w ++ bits_of rest) ≡ 8 * length rest + held
kept_length held w rest = omega (arith, length-append (low_bits held w) (bits_of rest), low_bits_length held w, length_bits rest)

pub no_bits : (rest : List ℕ) → length rest ≡ 0 → bits_of rest ≡ []
unfolding bits_of
no_bits [] e = refl
no_bits (b ∷ rest) e = absurd (omega arith)

pub nothing_kept : (bits : List Bool) → length bits ≡ 0 → IsPadding bits
nothing_kept [] e = (omega arith, tt)
nothing_kept (b ∷ bits) e = absurd (omega arith)
