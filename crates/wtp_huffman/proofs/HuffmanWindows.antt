-- Windows: their rows, and how they are computed from the waiting bits.
use Rattle.std.proofs.Common.{Bool, List, [], ap, append-nil, append_assoc, arith, drop, false, length, mod-eq_of_lt, mul_assoc, nat_le, nat_lt, ◌&&◌, ◌==◌, refl, subst, suc, sym, true, zero, ℕ, ◌%◌, ◌*◌, ◌++◌, ◌+◌, ◌-◌, ◌/◌, ◌<◌, ◌^◌, ◌∙◌, ◌∷◌, ◌≡◌, ◌≤◌}
use Rattle.std.proofs.Math.Nat.{div-div-eq-div-mul, mod-add-div', mul-div_cancel, mul-le-mul_right, mul-mod_left, two-pow-succ}
use Rattle.std.proofs.lemmas.Bool.{and_parts, eqb-true, leb-true, ltb-true}
use Rattle.std.proofs.lemmas.Nat.{div_below, mod-pow-add, mod_below, pow-add, pow_pos, shr_split}
use Rattle.wtp_huffman.specs.Huffman.{AllOnes, IsPadding, low_bits}
use Rattle.wtp_huffman.specs.HuffmanRows.{row_at, symbol_at}
use Rattle.wtp_huffman.specs.HuffmanShort.{short_bits_at, short_byte_at}
use Rattle.wtp_huffman.specs.HuffmanDecoding.{waiting_bits, InRow, IsWord, window_of, room}
use Rattle.wtp_huffman.proofs.HuffmanBits.{drop_low_bits, window_below, window_low_bits, window_split, low_bits_append, low_bits_mod}
use Rattle.wtp_huffman.proofs.HuffmanWords.{window_of_ones}
use Rattle.wtp_huffman.proofs.Tables.{all_below, all_below_at}

-- ---- the first row whose limit is above a window

touches : ℕ → Bool
touches k = nat_le ((row_at (suc k)).first * 2 ^ room (suc k)) (row_at k).limit

all_touch : all_below touches 20 ≡ true
unfolding row_at touches
all_touch = refl

first_row : (row_at 0).first ≡ 0
unfolding row_at
first_row = refl

last_limit : (row_at 20).limit ≡ 1073741824
unfolding row_at
last_limit = refl

pub row_found : (v k : ℕ) → k < 21 → ((j : ℕ) → j < k → (row_at j).limit ≤ v) → v < (row_at k).limit → InRow v k
unfolding touches
row_found v zero h before above = record { below = h; low = rw first_row (omega arith); high = above }
row_found v (suc k) h before above =
    let t : (row_at (suc k)).first * 2 ^ room (suc k) ≤ (row_at k).limit = leb-true ((row_at (suc k)).first * 2 ^ room (suc k)) (row_at k).limit (all_below_at touches 20 k all_touch (omega arith)) in
    record { below = h; low = omega (arith, before k (omega arith)); high = above }

pub some_row : (v : ℕ) → v < 2 ^ 30 → ((j : ℕ) → j < 21 → (row_at j).limit ≤ v) → ⊥
some_row v h before = omega (arith, before 20 (omega arith), last_limit)

-- ---- the words of at most eight bits

short_ok : ℕ → Bool
short_ok i =
    let l = short_bits_at i in
    let k = l - 5 in
    nat_le 5 l && (nat_le l 8 && ((row_at k).bits == l && (nat_le ((row_at k).first * 2 ^ room k) (i * 4194304) && (nat_le ((i + 1) * 4194304) (row_at k).limit
    && ((symbol_at ((row_at k).skipped + (i / 2 ^ (8 - l) - (row_at k).first)) == short_byte_at i) && nat_lt (short_byte_at i) 256)))))

all_short : all_below short_ok 254 ≡ true
unfolding row_at symbol_at short_bits_at short_byte_at short_ok
all_short = refl

-- the entry of a window's first eight bits is its word
pub short_found : (v : ℕ) → v < 1065353216 → IsWord v (short_bits_at (v / 4194304)) (short_byte_at (v / 4194304))
unfolding short_ok
short_found v h =
    let i : ℕ = v / 4194304 in
    let l : ℕ = short_bits_at i in
    let k : ℕ = l - 5 in
    let n : ℕ = symbol_at ((row_at k).skipped + (i / 2 ^ (8 - l) - (row_at k).first)) in
    let t0 = all_below_at short_ok 254 i all_short (omega arith) in
    let t1 = and_parts (nat_le 5 l) _ t0 in
    let t2 = and_parts (nat_le l 8) _ t1.1 in
    let t3 = and_parts ((row_at k).bits == l) _ t2.1 in
    let t4 = and_parts (nat_le ((row_at k).first * 2 ^ room k) (i * 4194304)) _ t3.1 in
    let t5 = and_parts (nat_le ((i + 1) * 4194304) (row_at k).limit) _ t4.1 in
    let t6 = and_parts (n == short_byte_at i) _ t5.1 in
    let least : 5 ≤ l = leb-true 5 l t1.0 in
    let most : l ≤ 8 = leb-true l 8 t2.0 in
    let bits : (row_at k).bits ≡ l = eqb-true (row_at k).bits l t3.0 in
    let low : (row_at k).first * 2 ^ room k ≤ i * 4194304 = leb-true ((row_at k).first * 2 ^ room k) (i * 4194304) t4.0 in
    let high : (i + 1) * 4194304 ≤ (row_at k).limit = leb-true ((i + 1) * 4194304) (row_at k).limit t5.0 in
    let symbol : n ≡ short_byte_at i = eqb-true n (short_byte_at i) t6.0 in
    let byte : short_byte_at i < 256 = ltb-true (short_byte_at i) 256 t6.1 in
    let places : room k ≡ 22 + (8 - l) = omega (arith, bits) in
    let shifted : v / 2 ^ room k ≡ i / 2 ^ (8 - l) = ap (λ j. v / 2 ^ j) places ∙ ap (λ d. v / d) (pow-add 2 22 (8 - l)) ∙ sym (div-div-eq-div-mul v 4194304 (2 ^ (8 - l))) in
    record {
      row = k;
      in_row = record { below = omega arith; low = omega (arith, low); high = omega (arith, high) };
      bits_are = sym bits;
      symbol_is = sym symbol ∙ ap (λ z. symbol_at ((row_at k).skipped + (z - (row_at k).first))) (sym shifted);
      least = least;
      most = omega arith;
      known = omega arith;
    }

-- ---- the next waiting bits

-- the window of a few bits
pub few_window : (bits number : ℕ) → bits ≤ 30 → number < 2 ^ bits → window_of 30 (low_bits bits number) + 1 ≡ (number + 1) * 2 ^ (30 - bits)
few_window bits number few fits =
    let m : ℕ = 30 - bits in
    let total : bits + m ≡ 30 = omega arith in
    let split : window_of 30 (low_bits bits number ++ []) ≡ window_of bits (low_bits bits number ++ []) * 2 ^ m + window_of m (drop bits (low_bits bits number ++ [])) =
    ap (λ n. window_of n (low_bits bits number ++ [])) (sym total) ∙ window_split bits m (low_bits bits number ++ []) in
    let e : low_bits bits number ++ [] ≡ low_bits bits number = append-nil (low_bits bits number) in
    let read : window_of bits (low_bits bits number ++ []) ≡ number = window_low_bits bits number [] fits in
    let gone : window_of m (drop bits (low_bits bits number ++ [])) + 1 ≡ 2 ^ m = rw (drop_low_bits bits number []) (window_of_ones m [] tt) in
    let joined = rw read at split in
    let whole : window_of 30 (low_bits bits number ++ []) + 1 ≡ (number + 1) * 2 ^ m = omega arith in
    let P : List Bool → Type 0 = λ z. window_of 30 z + 1 ≡ (number + 1) * 2 ^ m in
    subst P e whole

window_full : (held w : ℕ) (behind : List Bool) → 30 ≤ held → w / 2 ^ (held - 30) % 1073741824 ≡ window_of 30 (low_bits held w ++ behind)
window_full held w behind h =
    let m : ℕ = held - 30 in
    let x : ℕ = w / 2 ^ m in
    let total : 30 + m ≡ held = omega arith in
    let cut : low_bits held w ≡ low_bits 30 x ++ low_bits m (w % 2 ^ m) =
    ap (λ n. low_bits n w) (sym total) ∙ ap (low_bits (30 + m)) (sym (shr_split w m)) ∙ low_bits_append 30 m x (w % 2 ^ m) (mod_below w (2 ^ m) (pow_pos m)) in
    let r : List Bool = low_bits m (w % 2 ^ m) ++ behind in
    rw (cut, append_assoc (low_bits 30 x) (low_bits m (w % 2 ^ m)) behind, low_bits_mod 30 x) (sym (window_low_bits 30 (x % 2 ^ 30) r (mod_below x (2 ^ 30) (pow_pos 30))))

-- the highest bits of a 64-bit number, as a number
pub top_below : (held w : ℕ) → held ≤ 64 → w < 2 ^ 64 → w / 2 ^ (64 - held) < 2 ^ held
top_below held w h small =
    let whole : 2 ^ held * 2 ^ (64 - held) ≡ 2 ^ 64 = sym (pow-add 2 held (64 - held)) ∙ ap (λ n. 2 ^ n) (let e : held + (64 - held) ≡ 64 = omega arith in e) in
    div_below w (2 ^ (64 - held)) (2 ^ held) (pow_pos (64 - held)) (rw whole small)

-- a number with zeros after its highest bits
clear_whole : (w m : ℕ) → w % m ≡ 0 → w ≡ w / m * m
clear_whole w m clear = omega (arith, mod-add-div' w m, clear)

-- the next window
pub whole_window : (held w : ℕ) (behind : List Bool) → 30 ≤ held → held ≤ 64 → w < 2 ^ 64
    → (w / 17179869184 ≡ window_of 30 (waiting_bits held w ++ behind)) × (w / 17179869184 < 1073741824)
whole_window held w behind h most small =
    let m : ℕ = 64 - held in
    let total : m + (held - 30) ≡ 34 = omega arith in
    let e : w / 2 ^ m / 2 ^ (held - 30) ≡ w / 17179869184 = div-div-eq-div-mul w (2 ^ m) (2 ^ (held - 30)) ∙ ap (λ d. w / d) (sym (pow-add 2 m (held - 30)) ∙ ap (λ n. 2 ^ n) total) in
    let below : w / 17179869184 < 1073741824 = div_below w 17179869184 1073741824 (omega arith) small in
    (sym (mod-eq_of_lt below) ∙ ap (λ n. n % 1073741824) (sym e) ∙ window_full held (w / 2 ^ m) behind h, below)

-- the last window, filled with ones
pub filled_window : (held w : ℕ) → held < 30 → w < 2 ^ 64 → w % 2 ^ (64 - held) ≡ 0
    → w / 17179869184 + 2 ^ (30 - held) ≡ window_of 30 (waiting_bits held w) + 1
filled_window held w h small clear =
    let m : ℕ = 64 - held in
    let v : ℕ = w / 2 ^ m in
    let q : ℕ = 2 ^ (30 - held) in
    let total : (30 - held) + 34 ≡ m = omega arith in
    let parts : 2 ^ m ≡ q * 17179869184 = ap (λ n. 2 ^ n) (sym total) ∙ pow-add 2 (30 - held) 34 in
    let whole : w ≡ (v * q) * 17179869184 = clear_whole w (2 ^ m) clear ∙ ap (λ d. v * d) parts ∙ sym (mul_assoc v q 17179869184) in
    let top : w / 17179869184 ≡ v * q = ap (λ n. n / 17179869184) whole ∙ mul-div_cancel (v * q) (let p : 0 < 17179869184 = omega arith in p) in
    let filled : window_of 30 (low_bits held v) + 1 ≡ (v + 1) * q = few_window held v (omega arith) (top_below held w (omega arith) small) in
    omega (arith, top, filled)

-- bits added after the waiting ones
taken_in : (held b w n : ℕ) → held + b ≤ 64 → w < 2 ^ 64 → w % 2 ^ (64 - held) ≡ 0 → n < 2 ^ b
    → (w + n * 2 ^ (64 - (held + b)) < 2 ^ 64) × ((w + n * 2 ^ (64 - (held + b))) % 2 ^ (64 - (held + b)) ≡ 0)
    × (waiting_bits (held + b) (w + n * 2 ^ (64 - (held + b))) ≡ waiting_bits held w ++ low_bits b n)
taken_in held b w n h small clear fits =
    let m : ℕ = 64 - (held + b) in
    let p : ℕ = 2 ^ m in
    let v : ℕ = w / 2 ^ (64 - held) in
    let x : ℕ = w + n * p in
    let total : b + m ≡ 64 - held = omega arith in
    let parts : 2 ^ (64 - held) ≡ 2 ^ b * p = ap (λ j. 2 ^ j) (sym total) ∙ pow-add 2 b m in
    let whole : w ≡ v * (2 ^ b * p) = clear_whole w (2 ^ (64 - held)) clear ∙ ap (λ d. v * d) parts in
    let sum : x ≡ (v * 2 ^ b + n) * p = omega (arith, whole) in
    let top : x / p ≡ v * 2 ^ b + n = ap (λ z. z / p) sum ∙ mul-div_cancel (v * 2 ^ b + n) (pow_pos m) in
    let few : v < 2 ^ held = top_below held w (omega arith) small in
    let few_more : v + 1 ≤ 2 ^ held = omega (arith, few) in
    let next : (v + 1) * 2 ^ b ≤ 2 ^ held * 2 ^ b = mul-le-mul_right (2 ^ b) few_more in
    let most : (v * 2 ^ b + n + 1) * p ≤ (2 ^ held * 2 ^ b) * p = mul-le-mul_right p (omega arith) in
    let all : (2 ^ held * 2 ^ b) * p ≡ 2 ^ 64 = ap (λ z. z * p) (sym (pow-add 2 held b)) ∙ sym (pow-add 2 (held + b) m) ∙ ap (λ j. 2 ^ j) (let e : held + b + m ≡ 64 = omega arith in e) in
    let some : 0 < p = pow_pos m in (
      omega (arith, sum, most, all, some),
      rw sum (mul-mod_left (v * 2 ^ b + n) p),
      ap (λ z. low_bits (held + b) z) top ∙ low_bits_append held b v n fits,
    )

-- the same in the form that the code computes
pub shifted_in : (held b m w n : ℕ) → held + b + m ≡ 64 → w < 2 ^ 64 → w % 2 ^ (64 - held) ≡ 0 → n < 2 ^ b
    → (w + n * 2 ^ m % 18446744073709551616 < 2 ^ 64) × ((w + n * 2 ^ m % 18446744073709551616) % 2 ^ (64 - (held + b)) ≡ 0)
    × (waiting_bits (held + b) (w + n * 2 ^ m % 18446744073709551616) ≡ waiting_bits held w ++ low_bits b n)
shifted_in held b m w n total small clear fits =
    let k : ℕ = held + b in
    let P : ℕ → Type 0 = λ y. (w + y < 2 ^ 64) × ((w + y) % 2 ^ (64 - k) ≡ 0) × (waiting_bits k (w + y) ≡ waiting_bits held w ++ low_bits b n) in
    let e : 64 - k ≡ m = omega (arith, total) in
    let taken = taken_in held b w n (omega (arith, total)) small clear fits in
    let y : n * 2 ^ (64 - k) ≡ n * 2 ^ m % 18446744073709551616 =
    ap (λ j. n * 2 ^ j) e ∙ sym (mod-eq_of_lt (let z : n * 2 ^ m < 18446744073709551616 = omega (arith, ap (λ j. n * 2 ^ j) e, taken.0) in z)) in
    subst P y taken

-- decoded bits are removed
pub moved_on : (bits held w : ℕ) → bits ≤ held → held ≤ 64 → w % 2 ^ (64 - held) ≡ 0
    → (waiting_bits (held - bits) (w * 2 ^ bits % 18446744073709551616) ≡ low_bits (held - bits) (w / 2 ^ (64 - held)))
    × ((w * 2 ^ bits % 18446744073709551616) % 2 ^ (64 - (held - bits)) ≡ 0)
moved_on bits held w h most clear =
    let k : ℕ = held - bits in
    let m : ℕ = 64 - k in
    let p : ℕ = 2 ^ m in
    let v : ℕ = w / 2 ^ (64 - held) in
    let total : (64 - held) + bits ≡ m = omega arith in
    let parts : 2 ^ (64 - held) * 2 ^ bits ≡ p = sym (pow-add 2 (64 - held) bits) ∙ ap (λ j. 2 ^ j) total in
    let shifted : w * 2 ^ bits ≡ v * p = ap (λ z. z * 2 ^ bits) (clear_whole w (2 ^ (64 - held)) clear) ∙ mul_assoc v (2 ^ (64 - held)) (2 ^ bits) ∙ ap (λ z. v * z) parts in
    let all : k + m ≡ 64 = omega arith in
    let left : w * 2 ^ bits % 18446744073709551616 ≡ (v % 2 ^ k) * p =
    ap (λ z. z % 18446744073709551616) shifted ∙ ap (λ j. v * p % 2 ^ j) (sym all) ∙ mod-pow-add (v * p) k m
    ∙ rw (mul-div_cancel v (pow_pos m), mul-mod_left v p) (omega arith) in (
      ap (λ z. low_bits k (z / p)) left ∙ ap (low_bits k) (mul-div_cancel (v % 2 ^ k) (pow_pos m)) ∙ sym (low_bits_mod k v),
      rw left (mul-mod_left (v % 2 ^ k) p),
    )

-- ---- padding

ones_from_front : (n : ℕ) (bits : List Bool) → length bits ≤ n → window_of n bits + 1 ≡ 2 ^ n → AllOnes bits
unfolding window_of
ones_from_front zero [] h e = tt
ones_from_front zero (b ∷ bits) h e = absurd (omega arith)
ones_from_front (suc n) [] h e = tt
ones_from_front (suc n) (true ∷ bits) h e = (refl, ones_from_front n bits (omega arith) (omega (arith, two-pow-succ n)))
ones_from_front (suc n) (false ∷ bits) h e = absurd (omega (arith, two-pow-succ n, window_below n bits))

pub padding_from : (bits : List Bool) → length bits < 8 → window_of 30 bits ≡ 1073741823 → IsPadding bits
padding_from bits few e = (few, ones_from_front 30 bits (omega arith) (omega arith))

pub padding_window : (bits : List Bool) → IsPadding bits → window_of 30 bits ≡ 1073741823
padding_window bits p = omega (arith, window_of_ones 30 bits p.1)
