-- The row of a window determines the code word at the start of bits.
use Rattle.std.proofs.Common.{lit<, lit≤, Bool, List, [], ap, append_assoc, arith, drop, false, length, refl, subst, suc, sym, true, zero, ℕ, ◌*◌, ◌++◌, ◌+◌, ◌/◌, ◌<◌, ◌^◌, ◌∙◌, ◌∷◌, ◌≡◌, ◌≤◌}
use Rattle.std.proofs.Math.Nat.{mul-le-mul_right, two-pow-succ}
use Rattle.std.proofs.Math.Seq.{drop-append_seam}
use Rattle.std.proofs.lemmas.List.{length-append}
use Rattle.std.proofs.lemmas.Nat.{shr_high}
use Rattle.wtp_huffman.specs.Huffman.{AllOnes, IsCoded, IsPadding, code, text_code, word_of}
use Rattle.wtp_huffman.specs.HuffmanRows.{row_at}
use Rattle.wtp_huffman.specs.HuffmanDecoding.{InRow, window_of, room, symbol_in}
use Rattle.wtp_huffman.proofs.HuffmanBits.{window_below, window_low_bits, window_split, low_bits_window, low_bits_length}
use Rattle.wtp_huffman.proofs.HuffmanTable.{SymbolFacts, found, one_row, row_facts, symbol_facts, top_of}

-- the window of bits
abbrev window : List Bool → ℕ
window bits = window_of 30 bits

-- the first l bits of a window
window_parts : (l m : ℕ) (bits : List Bool) → l + m ≡ 30 → window bits ≡ window_of l bits * 2 ^ m + window_of m (drop l bits)
window_parts l m bits e = ap (λ n. window_of n bits) (sym e) ∙ window_split l m bits

-- If enough bits are left, they begin with the word that the window's row determines.
pub word_in_front : (bits : List Bool) (k : ℕ) → InRow (window bits) k → (row_at k).bits ≤ length bits
    → bits ≡ code (symbol_in (window bits) k) ++ drop (row_at k).bits bits
unfolding code
word_in_front bits k h enough =
    let f = row_facts k h.below in
    let l : ℕ = (row_at k).bits in
    let fits : l + room k ≡ 30 = omega (arith, f.most) in
    let split : window bits ≡ window_of l bits * 2 ^ room k + window_of (room k) (drop l bits) = window_parts l (room k) bits fits in
    let number : window bits / 2 ^ room k ≡ window_of l bits = rw split (shr_high (window_of l bits) (room k) (window_of (room k) (drop l bits)) (window_below (room k) (drop l bits))) in
    let there = found (window bits) k h in
    rw (there.bits, there.number, number) (sym (low_bits_window l bits enough))

-- The word that bits begin with is the one that the window's row determines.
pub only_word : (bits more : List Bool) (k y : ℕ) → InRow (window bits) k → y < 257 → bits ≡ code y ++ more
    → (y ≡ symbol_in (window bits) k) × ((word_of y).bits ≡ (row_at k).bits)
unfolding code
only_word bits more k y h small e =
    let there = symbol_facts y small in
    let j : ℕ = there.0 in
    let s : SymbolFacts y j = there.1 in
    let f = row_facts j s.below in
    let l : ℕ = (row_at j).bits in
    let r : ℕ = room j in
    let n : ℕ = (word_of y).number in
    let fits : l + r ≡ 30 = omega (arith, f.most) in
    let split : window bits ≡ window_of l bits * 2 ^ r + window_of r (drop l bits) = window_parts l r bits fits in
    let rest : window_of r (drop l bits) < 2 ^ r = window_below r (drop l bits) in
    let read : window_of (word_of y).bits bits ≡ n = rw e (window_low_bits (word_of y).bits n more s.fits) in
    let number : window_of l bits ≡ n = rw s.bits at read in
    let whole : window bits ≡ n * 2 ^ r + window_of r (drop l bits) = rw number at split in
    let low : (row_at j).first * 2 ^ r ≤ n * 2 ^ r = mul-le-mul_right (2 ^ r) s.low in
    let high : (n + 1) * 2 ^ r ≤ top_of j * 2 ^ r = mul-le-mul_right (2 ^ r) (omega (arith, s.high)) in
    let in_j : InRow (window bits) j = record { below = s.below; low = omega arith; high = omega (arith, f.ends) } in
    let same : j ≡ k = one_row (window bits) j k in_j h in
    let quotient : window bits / 2 ^ r ≡ n = rw whole (shr_high n r (window_of r (drop l bits)) rest) in
    let P : ℕ → Type 0 = λ i. (y ≡ symbol_in (window bits) i) × ((word_of y).bits ≡ (row_at i).bits) in
    let at_j : P j = (rw quotient (sym s.symbol), s.bits) in
    subst P same at_j

pub length_code : (x : ℕ) → length (code x) ≡ (word_of x).bits
unfolding code
length_code x = low_bits_length (word_of x).bits (word_of x).number

-- Fewer bits than the row's length begin with no word.
pub no_word : (bits more : List Bool) (k y : ℕ) → InRow (window bits) k → y < 257 → length bits < (row_at k).bits → bits ≡ code y ++ more → ⊥
no_word bits more k y h small few e =
    let only = only_word bits more k y h small e in
    omega (arith, ap length e, length-append (code y) more, length_code y, only.1)

pub window_of_ones : (n : ℕ) (bits : List Bool) → AllOnes bits → window_of n bits + 1 ≡ 2 ^ n
unfolding window_of
window_of_ones zero bits h = omega arith
window_of_ones (suc n) [] h = omega (arith, window_of_ones n [] tt, two-pow-succ n)
window_of_ones (suc n) (true ∷ bits) h = omega (arith, window_of_ones n bits h.1, two-pow-succ n)
window_of_ones (suc n) (false ∷ bits) h = cc

last_row : InRow 1073741823 20
unfolding row_at
last_row = record { below = lit< tt; low = lit≤ tt; high = lit< tt }

last_bits : (row_at 20).bits ≡ 30
unfolding row_at
last_bits = refl

-- A window of ones is in the row of the longest words.
pub ones_row : (bits : List Bool) (k : ℕ) → InRow (window bits) k → AllOnes bits → (row_at k).bits ≡ 30
ones_row bits k h ones =
    let e : window bits ≡ 1073741823 = omega (arith, window_of_ones 30 bits ones) in
    let last : InRow (window bits) 20 = rw e last_row in
    let same : k ≡ 20 = one_row (window bits) k 20 h last in
    rw same last_bits

-- ---- coded texts, one word on

pub coded_word : (u : List ℕ) (bits : List Bool) (k : ℕ) → InRow (window bits) k → (row_at k).bits ≤ length bits → IsCoded u bits
    → (v : List ℕ) × (u ≡ symbol_in (window bits) k ∷ v) × (symbol_in (window bits) k < 256) × IsCoded v (drop (row_at k).bits bits)
unfolding text_code
coded_word [] bits k h enough (small, pad, p, e) =
    let ones : AllOnes bits = rw e p.1 in
    let few : length bits < 8 = rw e p.0 in
    absurd (omega (arith, ones_row bits k h ones))
coded_word (y ∷ v) bits k h enough (small, pad, p, e) =
    let split : bits ≡ code y ++ (text_code v ++ pad) = e ∙ append_assoc (code y) (text_code v) pad in
    let only = only_word bits (text_code v ++ pad) k y h (omega (arith, small.0)) split in
    let len : length (code y) ≡ (row_at k).bits = length_code y ∙ only.1 in
    let rest : drop (row_at k).bits bits ≡ text_code v ++ pad = rw (split, ← len) (drop-append_seam (code y) (text_code v ++ pad)) in
    (v, ap (λ z. z ∷ v) only.0, rw (← only.0) small.0, (small.1, pad, p, rest))

pub coded_end : (u : List ℕ) (bits : List Bool) (k : ℕ) → InRow (window bits) k → length bits < (row_at k).bits → IsCoded u bits
    → (u ≡ []) × IsPadding bits
unfolding text_code
coded_end [] bits k h few (small, pad, p, e) = (refl, rw e p)
coded_end (y ∷ v) bits k h few (small, pad, p, e) =
    let split : bits ≡ code y ++ (text_code v ++ pad) = e ∙ append_assoc (code y) (text_code v) pad in
    absurd (no_word bits (text_code v ++ pad) k y h (omega (arith, small.0)) few split)
