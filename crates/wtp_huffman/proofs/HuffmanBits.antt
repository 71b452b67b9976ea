-- Numbers and their bits.
use Rattle.std.proofs.Common.{Bool, List, [], ap, append_assoc, arith, cond, drop, false, get_or, length, refl, suc, sym, take, true, zero, ℕ, ◌%◌, ◌*◌, ◌++◌, ◌+◌, ◌-◌, ◌/◌, ◌<◌, ◌==◌, ◌^◌, ◌∙◌, ◌∷◌, ◌≡◌, ◌≤◌}
use Rattle.std.proofs.Math.Nat.{suc-add, two-pow-succ, zero-add}
use Rattle.std.proofs.Math.Numerals.{one-add}
use Rattle.std.proofs.Math.Seq.{drop-nil, take-append-add, take-nil}
use Rattle.std.proofs.lemmas.List.{length-append}
use Rattle.std.proofs.lemmas.Nat.{be_bytes_4, mod_below, pow-add, pow_pos, shr_below, shr_high, shr_split}
use Rattle.std.proofs.lemmas.Nat.Bits.{bit_at_cat_high, bit_at_cat_low}
use Rattle.std.specs.Int.{from_be_bytes, to_be_bytes, w32, w64}
use Rattle.wtp_huffman.specs.Huffman.{AllOnes, bits_of, low_bits}
use Rattle.wtp_huffman.specs.HuffmanDecoding.{window_of}

pub window_below : (n : ℕ) (bs : List Bool) → window_of n bs < 2 ^ n
unfolding window_of
window_below zero bs = omega arith
window_below (suc n) [] = omega (arith, window_below n [], two-pow-succ n)
window_below (suc n) (true ∷ bs) = omega (arith, window_below n bs, two-pow-succ n)
window_below (suc n) (false ∷ bs) = omega (arith, window_below n bs, two-pow-succ n)

pub window_split : (a m : ℕ) (bs : List Bool) → window_of (a + m) bs ≡ window_of a bs * 2 ^ m + window_of m (drop a bs)
unfolding window_of
window_split zero m bs = grind arith
window_split (suc a) m [] =
    let e : window_of m (drop a []) ≡ window_of m [] = ap (window_of m) (drop-nil a) in
    rw (suc-add a m, pow-add 2 a m) (omega (arith, window_split a m []))
window_split (suc a) m (true ∷ bs) = rw (suc-add a m, pow-add 2 a m) (omega (arith, window_split a m bs))
window_split (suc a) m (false ∷ bs) = rw (suc-add a m) (omega (arith, window_split a m bs))

pub low_bits_cat : (a k b j : ℕ) → j ≤ k → low_bits j (a * 2 ^ k + b) ≡ low_bits j b
unfolding low_bits
low_bits_cat a k b zero h = refl
low_bits_cat a k b (suc j) h =
    rw (bit_at_cat_low a k b j (omega arith), low_bits_cat a k b j (omega arith)) refl

pub low_bits_length : (l w : ℕ) → length (low_bits l w) ≡ l
unfolding low_bits
low_bits_length zero w = refl
low_bits_length (suc l) w = ap suc (low_bits_length l w)

pub drop_low_bits : (l w : ℕ) (rest : List Bool) → drop l (low_bits l w ++ rest) ≡ rest
unfolding low_bits
drop_low_bits zero w rest = refl
drop_low_bits (suc l) w rest = drop_low_bits l w rest

top_bit : (l q r w : ℕ) → q < 2 → q * 2 ^ l + r ≡ w → cond (q % 2 == 1) (2 ^ l) 0 + r ≡ w
top_bit l zero r w h e = omega arith
top_bit l (suc zero) r w h e = omega arith
top_bit l (suc (suc q)) r w h e = absurd (omega arith)

-- reading a number's bits gives the number
pub window_low_bits : (l w : ℕ) (rest : List Bool) → w < 2 ^ l → window_of l (low_bits l w ++ rest) ≡ w
unfolding window_of low_bits
window_low_bits zero w rest h = omega arith
window_low_bits (suc l) w rest h =
    let whole : w / 2 ^ l * 2 ^ l + w % 2 ^ l ≡ w = shr_split w l in
    let small : w % 2 ^ l < 2 ^ l = mod_below w (2 ^ l) (pow_pos l) in
    let same : low_bits l w ≡ low_bits l (w % 2 ^ l) = ap (low_bits l) (sym whole) ∙ low_bits_cat (w / 2 ^ l) l (w % 2 ^ l) l (omega arith) in
    let few : w / 2 ^ l < 2 = shr_below w 1 l (rw (one-add l) h) in
    rw (same, window_low_bits l (w % 2 ^ l) rest small) (top_bit l (w / 2 ^ l) (w % 2 ^ l) w few whole)

set_bit : (l f : ℕ) → f < 2 ^ l → ((2 ^ l + f) / 2 ^ l % 2 == 1) ≡ true
set_bit l f h =
    let e : 2 ^ l + f ≡ 1 * 2 ^ l + f = omega arith in
    rw (e, shr_high 1 l f h) refl

clear_bit : (l f : ℕ) → f < 2 ^ l → ((0 + f) / 2 ^ l % 2 == 1) ≡ false
clear_bit l f h =
    let e : 0 + f ≡ 0 * 2 ^ l + f = omega arith in
    rw (e, shr_high 0 l f h) refl

set_rest : (l f : ℕ) → low_bits l (2 ^ l + f) ≡ low_bits l f
set_rest l f =
    let e : 2 ^ l + f ≡ 1 * 2 ^ l + f = omega arith in
    rw e (low_bits_cat 1 l f l (omega arith))

-- the window of bits, written as bits, is their prefix
pub low_bits_window : (l : ℕ) (bs : List Bool) → l ≤ length bs → low_bits l (window_of l bs) ++ drop l bs ≡ bs
unfolding window_of low_bits
low_bits_window zero bs h = refl
low_bits_window (suc l) [] h = absurd (omega arith)
low_bits_window (suc l) (true ∷ bs) h =
    rw (set_bit l (window_of l bs) (window_below l bs), set_rest l (window_of l bs), low_bits_window l bs (omega arith)) refl
low_bits_window (suc l) (false ∷ bs) h =
    rw (clear_bit l (window_of l bs) (window_below l bs), zero-add (window_of l bs), low_bits_window l bs (omega arith)) refl

pub low_bits_append : (a b w u : ℕ) → u < 2 ^ b → low_bits (a + b) (w * 2 ^ b + u) ≡ low_bits a w ++ low_bits b u
unfolding low_bits
low_bits_append zero b w u h = rw (zero-add b) (low_bits_cat w b u b (omega arith))
low_bits_append (suc a) b w u h =
    let e : a + b - b ≡ a = omega arith in
    rw (suc-add a b, bit_at_cat_high w b u (a + b) h (omega arith), e, low_bits_append a b w u h) refl

-- higher bits are ignored
pub low_bits_mod : (j w : ℕ) → low_bits j w ≡ low_bits j (w % 2 ^ j)
low_bits_mod j w = ap (low_bits j) (sym (shr_split w j)) ∙ low_bits_cat (w / 2 ^ j) j (w % 2 ^ j) j (omega arith)

-- ones
pub ones_bits : (n : ℕ) → AllOnes (low_bits n (2 ^ n - 1))
unfolding low_bits
ones_bits zero = tt
ones_bits (suc n) =
    let e : 2 ^ suc n - 1 ≡ 1 * 2 ^ n + (2 ^ n - 1) = omega (arith, two-pow-succ n, pow_pos n) in
    let small : 2 ^ n - 1 < 2 ^ n = omega (arith, pow_pos n) in
    let top : ((2 ^ suc n - 1) / 2 ^ n % 2 == 1) ≡ true = rw (e, shr_high 1 n (2 ^ n - 1) small) refl in
    let rest : AllOnes (low_bits n (2 ^ suc n - 1)) = rw (e, low_bits_cat 1 n (2 ^ n - 1) n (omega arith)) (ones_bits n) in
    (top, rest)

-- ---- bytes

pub length_bits : (s : List ℕ) → length (bits_of s) ≡ 8 * length s
unfolding bits_of
length_bits [] = refl
length_bits (b ∷ s) = omega (arith, length-append (low_bits 8 b) (bits_of s), low_bits_length 8 b, length_bits s)

pub bits_append : (xs ys : List ℕ) → bits_of (xs ++ ys) ≡ bits_of xs ++ bits_of ys
unfolding bits_of
bits_append [] ys = refl
bits_append (x ∷ xs) ys = rw (bits_append xs ys) (sym (append_assoc (low_bits 8 x) (bits_of xs) (bits_of ys)))

be_bits : (n : ℕ) → n < 2 ^ 32 → bits_of (to_be_bytes w32 n) ≡ low_bits 32 n
unfolding bits_of low_bits
be_bits n h =
    let a : ℕ = n / 16777216 % 256 in
    let b : ℕ = n / 65536 % 256 in
    let c : ℕ = n / 256 % 256 in
    let d : ℕ = n % 256 in
    let y : ℕ = a * 2 ^ 8 + b in
    let x : ℕ = y * 2 ^ 8 + c in
    let whole : x * 2 ^ 8 + d ≡ n = omega arith in
    sym (ap (low_bits 32) (sym whole) ∙ low_bits_append 24 8 x d (omega arith)
    ∙ ap (λ z. z ++ low_bits 8 d) (low_bits_append 16 8 y c (omega arith) ∙ ap (λ z. z ++ low_bits 8 c) (low_bits_append 8 8 a b (omega arith))))

pub be_bits_8 : (n : ℕ) → n < 2 ^ 64 → bits_of (to_be_bytes w64 n) ≡ low_bits 64 n
be_bits_8 n h =
    let high : ℕ = n / 4294967296 in
    let low : ℕ = n % 4294967296 in
    let whole : high * 2 ^ 32 + low ≡ n = omega arith in
    let halves : to_be_bytes w64 n ≡ to_be_bytes w32 high ++ to_be_bytes w32 low = grind arith in
    ap bits_of halves ∙ bits_append (to_be_bytes w32 high) (to_be_bytes w32 low)
    ∙ rw (be_bits high (omega arith), be_bits low (omega arith)) (sym (low_bits_append 32 32 high low (omega arith)) ∙ ap (low_bits 64) whole)

pub bits_take : (k : ℕ) (s : List ℕ) → bits_of (take k s) ≡ take (8 * k) (bits_of s)
unfolding bits_of
bits_take zero s = refl
bits_take (suc k) [] = sym (take-nil (8 * suc k))
bits_take (suc k) (b ∷ s) =
    let e : length (low_bits 8 b) + 8 * k ≡ 8 * suc k = omega (arith, low_bits_length 8 b) in
    ap (λ z. low_bits 8 b ++ z) (bits_take k s) ∙ sym (take-append-add (low_bits 8 b) (bits_of s) (8 * k)) ∙ ap (λ n. take n (low_bits 8 b ++ bits_of s)) e

pub four_bits : (n : ℕ) (four : List ℕ) → length four ≡ 4 → ((i : ℕ) → get_or four i 0 < 256) → n ≡ from_be_bytes w32 four → n < 2 ^ 32 → bits_of four ≡ low_bits 32 n
four_bits n four len bytes e small = ap bits_of (sym (be_bytes_4 four n len bytes e)) ∙ be_bits n small
