-- Laws of the code.
use Rattle.std.proofs.Common.{Bool, List, [], ap, append-nil, arith, drop, inl, inr, length, refl, subst, suc, sym, zero, ℕ, ◌++◌, ◌-◌, ◌*◌, ◌<◌, ◌^◌, ◌∙◌, ◌∷◌, ◌≡◌, ◌≤◌, ◌⊎◌}
use Rattle.std.proofs.lemmas.Bool.{cases_lt}
use Rattle.std.proofs.lemmas.List.{length-append, length-drop}
use Rattle.wtp_huffman.specs.Huffman.{AllOnes, IsBytes, IsCoded, IsHuffman, bits_of, code, text_code, coded_len, low_bits}
use Rattle.wtp_huffman.specs.HuffmanRows.{row_at}
use Rattle.wtp_huffman.specs.HuffmanDecoding.{InRow, window_of, symbol_in}
use Rattle.wtp_huffman.proofs.HuffmanBits.{drop_low_bits, window_below, window_low_bits, length_bits, low_bits_window, low_bits_length, ones_bits}
use Rattle.wtp_huffman.proofs.HuffmanTable.{found, row_facts}
use Rattle.wtp_huffman.proofs.HuffmanWindows.{row_found, some_row}
use Rattle.wtp_huffman.proofs.HuffmanWords.{coded_end, coded_word, length_code, ones_row, only_word, word_in_front}

-- each window has a row
from_rows : (v n : ℕ) → n ≤ 21 → (((j : ℕ) → j < n → (row_at j).limit ≤ v)) ⊎ ((k : ℕ) × InRow v k)
from_rows v zero h = inl (λ j lt. absurd (omega arith))
from_rows v (suc n) h = elim (from_rows v n (omega arith)) [
  | inr there ↦ inr there
  | inl before ↦ elim (cases_lt v (row_at n).limit) [
    | inl lt ↦ inr (n, row_found v n (omega arith) before lt)
    | inr ge ↦ inl (λ j lt. elim (cases_lt j n) [
      | inl less ↦ before j less
      | inr top ↦
          let e : j ≡ n = omega arith in
          rw e ge
    ])
  ]
]

pub row_exists : (v : ℕ) → v < 2 ^ 30 → (k : ℕ) × InRow v k
row_exists v h = elim (from_rows v 21 (omega arith)) [
  | inr there ↦ there
  | inl before ↦ absurd (some_row v h before)
]

pub apart : (x y : ℕ) (more : List Bool) → x < 257 → y < 257 → code x ≡ code y ++ more → x ≡ y
apart x y more hx hy e =
    let there = row_exists (window_of 30 (code x)) (window_below 30 (code x)) in
    let a = only_word (code x) [] there.0 x there.1 hx (sym (append-nil (code x))) in
    let b = only_word (code x) more there.0 y there.1 hy e in
    a.0 ∙ sym b.0

pub ones_long : (x : ℕ) → x < 257 → AllOnes (code x) → 8 ≤ length (code x)
ones_long x h ones =
    let there = row_exists (window_of 30 (code x)) (window_below 30 (code x)) in
    let a = only_word (code x) [] there.0 x there.1 h (sym (append-nil (code x))) in
    omega (arith, ones_row (code x) there.0 there.1 ones, length_code x, a.1)

pub full : (bits : List Bool) → 30 ≤ length bits → (x : ℕ) × (x < 257) × (more : List Bool) × (bits ≡ code x ++ more)
full bits h =
    let there = row_exists (window_of 30 bits) (window_below 30 bits) in
    let f = row_facts there.0 there.1.below in (
      symbol_in (window_of 30 bits) there.0,
      (found (window_of 30 bits) there.0 there.1).facts.symbol,
      drop (row_at there.0).bits bits,
      word_in_front bits there.0 there.1 (omega (arith, f.most)),
    )

pub one_text : (bits : List Bool) (t u : List ℕ) → IsCoded t bits → IsCoded u bits → t ≡ u
one_text bits [] u a b =
    let there = row_exists (window_of 30 bits) (window_below 30 bits) in
    elim (cases_lt (length bits) (row_at there.0).bits) [
      | inl few ↦ sym (coded_end u bits there.0 there.1 few b).0
      | inr enough ↦ cc (coded_word [] bits there.0 there.1 enough a).1
    ]
one_text bits (x ∷ t) u a b =
    let there = row_exists (window_of 30 bits) (window_below 30 bits) in
    elim (cases_lt (length bits) (row_at there.0).bits) [
      | inl few ↦ (coded_end (x ∷ t) bits there.0 there.1 few a).0 ∙ sym (coded_end u bits there.0 there.1 few b).0
      | inr enough ↦
          let p = coded_word (x ∷ t) bits there.0 there.1 enough a in
          let q = coded_word u bits there.0 there.1 enough b in
          let rest : List Bool = drop (row_at there.0).bits bits in
          let same : p.0 ≡ t = cc p.1 in
          let P : List ℕ → Type 0 = λ z. IsCoded z rest in
          let later : t ≡ q.0 = one_text rest t q.0 (subst P same p.3) q.3 in
          p.1 ∙ ap (λ z. symbol_in (window_of 30 bits) there.0 ∷ z) (same ∙ later) ∙ sym q.1
    ]

-- ---- a text and its string

-- two lists of ones with equal length are equal
ones_same : (a b : List Bool) → AllOnes a → AllOnes b → length a ≡ length b → a ≡ b
ones_same [] [] h k e = refl
ones_same [] (y ∷ b) h k e = absurd (omega arith)
ones_same (x ∷ a) [] h k e = absurd (omega arith)
ones_same (x ∷ a) (y ∷ b) h k e =
    let rest : a ≡ b = ones_same a b h.1 k.1 (omega arith) in
    rw (h.0, k.0, rest) refl

-- bytes are determined by their bits
bits_same : (s u : List ℕ) → IsBytes s → IsBytes u → bits_of s ≡ bits_of u → s ≡ u
unfolding bits_of
bits_same [] [] h k e = refl
bits_same [] (y ∷ u) h k e = absurd (omega (arith, ap length e, length_bits (y ∷ u)))
bits_same (x ∷ s) [] h k e = absurd (omega (arith, ap length e, length_bits (x ∷ s)))
bits_same (x ∷ s) (y ∷ u) h k e =
    let top : x ≡ y = sym (window_low_bits 8 x (bits_of s) h.0) ∙ ap (window_of 8) e ∙ window_low_bits 8 y (bits_of u) k.0 in
    let cut : bits_of s ≡ bits_of u = sym (drop_low_bits 8 x (bits_of s)) ∙ ap (drop 8) e ∙ drop_low_bits 8 y (bits_of u) in
    let rest : s ≡ u = bits_same s u h.1 k.1 cut in
    rw (top, rest) refl

pub one_string : (s t u : List ℕ) → IsBytes s → IsBytes u → IsHuffman t s → IsHuffman t u → s ≡ u
one_string s t u hs hu (bytes, pad, p, e) (_, more, q, k) =
    let long : length pad ≡ length more = omega (arith, ap length e, ap length k, length-append (text_code t) pad, length-append (text_code t) more, length_bits s, length_bits u, p.0, q.0) in
    let same : pad ≡ more = ones_same pad more p.1 q.1 long in
    bits_same s u hs hu (e ∙ ap (λ z. text_code t ++ z) same ∙ sym k)

-- bits in multiples of eight are those of bytes
bytes_of : (n : ℕ) (bits : List Bool) → length bits ≡ 8 * n → (s : List ℕ) × IsBytes s × (bits_of s ≡ bits)
unfolding bits_of
bytes_of zero [] e = ([], tt, refl)
bytes_of zero (b ∷ bits) e = absurd (omega arith)
bytes_of (suc n) bits e =
    let behind = bytes_of n (drop 8 bits) (omega (arith, length-drop 8 bits)) in
    (window_of 8 bits ∷ behind.0, (window_below 8 bits, behind.1), ap (λ z. low_bits 8 (window_of 8 bits) ++ z) behind.2 ∙ low_bits_window 8 bits (omega arith))

pub each_text : (t : List ℕ) → IsBytes t → (s : List ℕ) × IsBytes s × IsHuffman t s
each_text t h =
    let n : ℕ = coded_len t in
    let k : ℕ = 8 * n - length (text_code t) in
    let pad : List Bool = low_bits k (2 ^ k - 1) in
    let len : length pad ≡ k = low_bits_length k (2 ^ k - 1) in
    let there = bytes_of n (text_code t ++ pad) (omega (arith, length-append (text_code t) pad, len)) in
    let short : length pad < 8 = omega (arith, len) in
    (there.0, there.1, (h, pad, (short, ones_bits k), there.2))
