-- The window has what began.
use Rattle.std.proofs.Common.{◌≡◌, ◌||◌, ◌==◌, ℕ, zero, suc, ◌+◌, ◌-◌, ◌*◌, ◌/◌, ◌%◌, ◌^◌, ◌<◌, ◌≤◌, Bool, cond, true, false, List, [], ◌∷◌, ◌++◌, length, get_or, drop, set, replicate, bit_or, w64, refl, sym, ap, ◌∙◌, arith, length-drop, length-append, eq-eqb, inl, inr}
use Rattle.std.specs.Int.{bit_at}
use Rattle.std.proofs.lemmas.Bool.{cases_lt, cases_Bool, lt-ltb, le-ltb, ne_eqb, eqb-true}
use Rattle.std.proofs.lemmas.List.{get_or_append_left, get_or-append_right, get_or_past, get_or-set_same, get_or-set_other, get_or-replicate, length-replicate, length-set}
use Rattle.std.proofs.lemmas.Grind.{get_or_after_one}
use Rattle.std.proofs.lemmas.Nat.Bits.{bit_at-zero, bit_at_ones, bit_at_set_same, bit_at_set_other}
use Rattle.wtp_connection.specs.declared.requests.Begun.{Begun}
use Rattle.wtp_connection.specs.declared.requests.Beginning.TheVariants as beginning
use Rattle.wtp_connection.specs.Requests.{has_begun, IsNotFarBehind, beginning_of, is_set, beginning_at, none_begun, slid, slid_by, moved_to, words_past, with_room, with_bit, placed, begun_by}

-- what a window keeps, after these requests
pub record Holds (b : Begun) (ms : List ℕ) : Type 0 where
  pub size : length b.words ≡ 9
  pub below : b.lost ≤ b.first
  pub before : (n : ℕ) → b.lost ≤ n → n < b.first → has_begun ms n ≡ true
  pub inside : (n : ℕ) → b.first ≤ n → is_set b.words (n - b.first) ≡ has_begun ms n

-- ---- bits

no_bit : (i : ℕ) → (bit_at 0 i == 1) ≡ false
no_bit i = rw (bit_at-zero i) refl

abbrev word_at : List ℕ → ℕ → ℕ
word_at words j = get_or words j 0

zeros : (j : ℕ) → word_at (replicate 9 0) j ≡ 0
zeros j = elim (cases_lt j 9) [
  | inl l ↦ get_or-replicate 9 j 0 0 l
  | inr m ↦ get_or_past (replicate 9 0) j 0 m
]

none_set : (k : ℕ) → is_set (replicate 9 0) k ≡ false
none_set k = ap (λ (w : ℕ). bit_at w (k % 64) == 1) (zeros (k / 64)) ∙ no_bit (k % 64)

past_set : (words : List ℕ) (k : ℕ) → length words ≡ 9 → 576 ≤ k → is_set words k ≡ false
past_set words k size m = ap (λ (w : ℕ). bit_at w (k % 64) == 1) (get_or_past words (k / 64) 0 (omega (arith, size, m))) ∙ no_bit (k % 64)

full_set : (words : List ℕ) (k : ℕ) → (get_or words 0 0 == 2 ^ 64 - 1) ≡ true → k < 64 → is_set words k ≡ true
full_set words k full l =
    let first : k / 64 ≡ 0 = omega (arith, l) in
    let place : k % 64 ≡ k = omega (arith, l) in
    let word : get_or words 0 0 ≡ 2 ^ 64 - 1 = eqb-true (get_or words 0 0) (2 ^ 64 - 1) full in
    ap (λ (j : ℕ). bit_at (get_or words j 0) (k % 64) == 1) first
    ∙ ap (λ (i : ℕ). bit_at (get_or words 0 0) i == 1) place
    ∙ ap (λ (w : ℕ). bit_at w k == 1) word
    ∙ ap (λ (x : ℕ). x == 1) (bit_at_ones 64 k l)

-- ---- the window without its first word

one_zero : (j : ℕ) → word_at (0 ∷ []) j ≡ 0
one_zero zero = refl
one_zero (suc j) = refl

next_word : (words : List ℕ) (j : ℕ) → length words ≡ 9 → get_or (drop 1 words ++ (0 ∷ [])) j 0 ≡ get_or words (1 + j) 0
next_word words j size =
    let rest : length (drop 1 words) ≡ 8 = omega (arith, size, length-drop 1 words) in
    elim (cases_lt j 8) [
      | inl l ↦ get_or_append_left (drop 1 words) (0 ∷ []) 0 j (omega (arith, l, rest)) ∙ get_or_after_one words j 0
      | inr m ↦ get_or-append_right (drop 1 words) (0 ∷ []) 8 j 0 rest m ∙ one_zero (j - 8) ∙ sym (get_or_past words (1 + j) 0 (omega (arith, size, m)))
    ]

slid_set : (words : List ℕ) (k j : ℕ) → length words ≡ 9 → j ≡ 64 + k → is_set (drop 1 words ++ (0 ∷ [])) k ≡ is_set words j
slid_set words k j size e =
    let word : 1 + k / 64 ≡ j / 64 = omega (arith, e) in
    let place : k % 64 ≡ j % 64 = omega (arith, e) in
    ap (λ (w : ℕ). bit_at w (k % 64) == 1) (next_word words (k / 64) size)
    ∙ ap (λ (i : ℕ). bit_at (get_or words i 0) (k % 64) == 1) word
    ∙ ap (λ (i : ℕ). bit_at (get_or words (j / 64) 0) i == 1) place

slid_size : (words : List ℕ) → length words ≡ 9 → length (drop 1 words ++ (0 ∷ [])) ≡ 9
slid_size words size = omega (arith, size, length-drop 1 words, length-append (drop 1 words) (0 ∷ []))

abbrev slid_to : Begun → Bool → Begun
slid_to b full = record { first = b.first + 64; lost = cond full b.lost (b.first + 64); words = drop 1 b.words ++ (0 ∷ []) }

slid_inside : (b : Begun) (ms : List ℕ) (n : ℕ) → Holds b ms → b.first + 64 ≤ n → is_set (drop 1 b.words ++ (0 ∷ [])) (n - (b.first + 64)) ≡ has_begun ms n
slid_inside b ms n h l = slid_set b.words (n - (b.first + 64)) (n - b.first) h.size (omega (arith, l)) ∙ h.inside n (omega (arith, l))

slid_before : (b : Begun) (ms : List ℕ) (n : ℕ) → Holds b ms → (get_or b.words 0 0 == 2 ^ 64 - 1) ≡ true → b.lost ≤ n → n < b.first + 64 → has_begun ms n ≡ true
slid_before b ms n h full l m = elim (cases_lt n b.first) [
  | inl before ↦ h.before n l before
  | inr after ↦ sym (h.inside n after) ∙ full_set b.words (n - b.first) full (omega (arith, m, after))
]

slid_case : (full : Bool) (b : Begun) (ms : List ℕ) → Holds b ms → (get_or b.words 0 0 == 2 ^ 64 - 1) ≡ full → Holds (slid_to b full) ms
slid_case true b ms h e = record {
  size = slid_size b.words h.size;
  below = omega (arith, h.below);
  before = λ n l m. slid_before b ms n h e l m;
  inside = λ n l. slid_inside b ms n h l;
}
slid_case false b ms h e = record {
  size = slid_size b.words h.size;
  below = omega arith;
  before = λ n l m. absurd (omega (arith, l, m));
  inside = λ n l. slid_inside b ms n h l;
}

slid_holds : (k : ℕ) (b : Begun) (ms : List ℕ) → Holds b ms → Holds (slid_by k b) ms
slid_holds zero b ms h = h
slid_holds (suc k) b ms h = slid_holds k (slid b) ms (slid_case (get_or b.words 0 0 == 2 ^ 64 - 1) b ms h refl)

slid_first : (k : ℕ) (b : Begun) → (slid_by k b).first ≡ b.first + 64 * k
slid_first zero b = omega arith
slid_first (suc k) b = slid_first k (slid b) ∙ omega arith

-- ---- room for a request

moved_holds : (b : Begun) (n : ℕ) (ms : List ℕ) → Holds b ms → 9 < words_past b n → Holds (moved_to n) ms
moved_holds b n ms h far = record {
  size = length-replicate {A = ℕ} 9 0;
  below = omega arith;
  before = λ m l k. absurd (omega (arith, l, k));
  inside = λ m l.
      none_set (m - (n - n % 64 - 512))
      ∙ sym (sym (h.inside m (omega (arith, l, far))) ∙ past_set b.words (m - b.first) h.size (omega (arith, l, far)));
}

room_holds : (b : Begun) (n : ℕ) (ms : List ℕ) → Holds b ms → Holds (with_room b n) ms
room_holds b n ms h = elim (cases_lt 9 (words_past b n)) [
  | inl far ↦ rw (lt-ltb 9 (words_past b n) far) (moved_holds b n ms h far)
  | inr near ↦ rw (le-ltb 9 (words_past b n) near) (slid_holds (words_past b n) b ms h)
]

room_fits : (b : Begun) (n : ℕ) → n < (with_room b n).first + 576
room_fits b n = elim (cases_lt 9 (words_past b n)) [
  | inl far ↦ rw (lt-ltb 9 (words_past b n) far) (omega (arith, far))
  | inr near ↦ rw (le-ltb 9 (words_past b n) near, slid_first (words_past b n) b) (omega arith)
]

-- ---- the bit of a request

set_same : (words : List ℕ) (k : ℕ) → length words ≡ 9 → k < 576 → is_set (with_bit words k) k ≡ true
set_same words k size l =
    let word : k / 64 < 9 = omega (arith, l) in
    let place : k % 64 < 64 = omega arith in
    rw (lt-ltb (k / 64) 9 word) (
    ap (λ (w : ℕ). bit_at w (k % 64) == 1) (get_or-set_same words (k / 64) (bit_or (get_or words (k / 64) 0) (1 * 2 ^ (k % 64) % 2 ^ 64)) 0 (omega (arith, word, size)))
    ∙ ap (λ (x : ℕ). x == 1) (bit_at_set_same w64 (get_or words (k / 64) 0) (k % 64) place))

set_other : (words : List ℕ) (k j : ℕ) → length words ≡ 9 → k < 576 → (j ≡ k → ⊥) → is_set (with_bit words k) j ≡ is_set words j
set_other words k j size l other =
    let word : k / 64 < 9 = omega (arith, l) in
    let place : k % 64 < 64 = omega arith in
    rw (lt-ltb (k / 64) 9 word) (elim (cases_Bool (j / 64 == k / 64)) [
      | inl same ↦
          let e : j / 64 ≡ k / 64 = eqb-true (j / 64) (k / 64) same in
          ap (λ (i : ℕ). bit_at (get_or (set words (k / 64) (bit_or (get_or words (k / 64) 0) (1 * 2 ^ (k % 64) % 2 ^ 64))) i 0) (j % 64) == 1) e
          ∙ ap (λ (w : ℕ). bit_at w (j % 64) == 1) (get_or-set_same words (k / 64) (bit_or (get_or words (k / 64) 0) (1 * 2 ^ (k % 64) % 2 ^ 64)) 0 (omega (arith, word, size)))
          ∙ ap (λ (x : ℕ). x == 1) (bit_at_set_other w64 (get_or words (k / 64) 0) (k % 64) place (j % 64) (λ z. other (omega (arith, z, e))))
          ∙ ap (λ (i : ℕ). bit_at (get_or words i 0) (j % 64) == 1) (sym e)
      | inr differs ↦ ap (λ (w : ℕ). bit_at w (j % 64) == 1) (get_or-set_other words (k / 64) (j / 64) (bit_or (get_or words (k / 64) 0) (1 * 2 ^ (k % 64) % 2 ^ 64)) 0 (λ e. absurd (cc (sym differs ∙ eq-eqb (j / 64) (k / 64) e))))
    ])

with_bit_size : (words : List ℕ) (k : ℕ) → length words ≡ 9 → k < 576 → length (with_bit words k) ≡ 9
with_bit_size words k size l = rw (lt-ltb (k / 64) 9 (omega (arith, l))) (length-set words (k / 64) (bit_or (get_or words (k / 64) 0) (1 * 2 ^ (k % 64) % 2 ^ 64)) ∙ size)

or_true : (b : Bool) → (b || true) ≡ true
or_true true = refl
or_true false = refl

one_more : (n m : ℕ) (ms : List ℕ) → has_begun ms m ≡ true → has_begun (n ∷ ms) m ≡ true
one_more n m ms h = ap (λ (b : Bool). n == m || b) h ∙ or_true (n == m)

not_this : (n m : ℕ) (ms : List ℕ) → (n ≡ m → ⊥) → has_begun ms m ≡ has_begun (n ∷ ms) m
not_this n m ms h = rw (ne_eqb n m h) refl

placed_before : (b : Begun) (n : ℕ) (ms : List ℕ) → Holds b ms → n < b.first → Holds b (n ∷ ms)
placed_before b n ms h l = record {
  size = h.size;
  below = h.below;
  before = λ m k j. one_more n m ms (h.before m k j);
  inside = λ m k. h.inside m k ∙ not_this n m ms (λ e. omega (arith, e, l, k));
}

set_inside : (b : Begun) (n m : ℕ) (ms : List ℕ) → Holds b ms → b.first ≤ n → n < b.first + 576 → b.first ≤ m → is_set (with_bit b.words (n - b.first)) (m - b.first) ≡ has_begun (n ∷ ms) m
set_inside b n m ms h l fits k = elim (cases_Bool (n == m)) [
  | inl same ↦
      let e : n ≡ m = eqb-true n m same in
      ap (λ (i : ℕ). is_set (with_bit b.words (n - b.first)) (i - b.first)) (sym e)
      ∙ set_same b.words (n - b.first) h.size (omega (arith, l, fits))
      ∙ sym (rw same refl)
  | inr differs ↦
      let other : n ≡ m → ⊥ = λ e. cc (sym differs ∙ eq-eqb n m e) in
      set_other b.words (n - b.first) (m - b.first) h.size (omega (arith, l, fits)) (λ e. other (omega (arith, e, l, k)))
      ∙ h.inside m k
      ∙ not_this n m ms other
]

placed_inside : (b : Begun) (n : ℕ) (ms : List ℕ) → Holds b ms → b.first ≤ n → n < b.first + 576 → Holds (record b { words = with_bit b.words (n - b.first) }) (n ∷ ms)
placed_inside b n ms h l fits = record {
  size = with_bit_size b.words (n - b.first) h.size (omega (arith, l, fits));
  below = h.below;
  before = λ m k j. one_more n m ms (h.before m k j);
  inside = λ m k. set_inside b n m ms h l fits k;
}

placed_holds : (b : Begun) (n : ℕ) (ms : List ℕ) → Holds b ms → n < b.first + 576 → Holds (placed b n) (n ∷ ms)
placed_holds b n ms h fits = elim (cases_lt n b.first) [
  | inl l ↦ rw (lt-ltb n b.first l) (placed_before b n ms h l)
  | inr l ↦ rw (le-ltb n b.first l) (placed_inside b n ms h l fits)
]

-- ---- after any requests

none_hold : Holds none_begun []
none_hold = record {
  size = length-replicate {A = ℕ} 9 0;
  below = omega arith;
  before = λ n l m. absurd (omega (arith, m));
  inside = λ n l. none_set (n - 0);
}

pub begun_hold : (ns : List ℕ) → Holds (begun_by ns) ns
begun_hold [] = none_hold
begun_hold (n ∷ ns) = placed_holds (with_room (begun_by ns) n) n ns (room_holds (begun_by ns) n ns (begun_hold ns)) (room_fits (begun_by ns) n)

known : (b : Begun) (ns : List ℕ) (n : ℕ) → Holds b ns → b.lost ≤ n → beginning_at b n ≡ beginning_of (has_begun ns n)
known b ns n h l = rw (le-ltb n b.lost l) (elim (cases_lt n b.first) [
  | inl before ↦ rw (lt-ltb n b.first before) (ap beginning_of (sym (h.before n l before)))
  | inr after ↦ rw (le-ltb n b.first after) (ap beginning_of (h.inside n after))
])

pub requests_known : (ns : List ℕ) (n : ℕ) → (begun_by ns).lost ≤ n → beginning_at (begun_by ns) n ≡ beginning_of (has_begun ns n)
requests_known ns n l = known (begun_by ns) ns n (begun_hold ns) l

not_begun : (b : Bool) → b ≡ false → beginning_of b ≡ beginning.Begun → ⊥
not_begun true e h = cc
not_begun false e h = cc

pub never_begun : (ns : List ℕ) (n : ℕ) → has_begun ns n ≡ false → beginning_at (begun_by ns) n ≡ beginning.Begun → ⊥
never_begun ns n none h = elim (cases_lt n (begun_by ns).lost) [
  | inl lost ↦ cc (rw (lt-ltb n (begun_by ns).lost lost) at h)
  | inr kept ↦ not_begun (has_begun ns n) none (sym (requests_known ns n kept) ∙ h)
]

-- ---- what is lost

slid_lost : (full : Bool) (b : Begun) (n : ℕ) → b.lost ≤ n → b.first + 64 ≤ n → (slid_to b full).lost ≤ n
slid_lost true b n l m = l
slid_lost false b n l m = m

slides_lost : (k : ℕ) (b : Begun) (n : ℕ) → b.lost ≤ n → (0 < k → b.first + 64 * k ≤ n) → (slid_by k b).lost ≤ n
slides_lost zero b n l m = l
slides_lost (suc k) b n l m =
    let some : b.first + 64 * suc k ≤ n = m (omega arith) in
    slides_lost k (slid b) n (slid_lost (get_or b.words 0 0 == 2 ^ 64 - 1) b n l (omega (arith, some))) (λ p. omega (arith, some))

room_lost : (b : Begun) (m n : ℕ) → b.lost ≤ n → m < n + 512 → (with_room b m).lost ≤ n
room_lost b m n l near = elim (cases_lt 9 (words_past b m)) [
  | inl far ↦ rw (lt-ltb 9 (words_past b m) far) (omega (arith, near))
  | inr few ↦ rw (le-ltb 9 (words_past b m) few) (slides_lost (words_past b m) b n l (λ some. omega (arith, some, near)))
]

placed_lost : (b : Begun) (n : ℕ) → (placed b n).lost ≡ b.lost
placed_lost b n = elim (cases_lt n b.first) [
  | inl l ↦ rw (lt-ltb n b.first l) refl
  | inr l ↦ rw (le-ltb n b.first l) refl
]

pub few_lost : (ns : List ℕ) (n : ℕ) → IsNotFarBehind ns n → (begun_by ns).lost ≤ n
few_lost [] n h = omega arith
few_lost (m ∷ ms) n h =
    let this : (m == m || has_begun ms m) ≡ true = rw (eq-eqb m m refl) refl in
    let rest : (begun_by ms).lost ≤ n = few_lost ms n (λ k e. h k (one_more m k ms e)) in
    let room : (with_room (begun_by ms) m).lost ≤ n = room_lost (begun_by ms) m n rest (h m this) in
    omega (arith, room, placed_lost (with_room (begun_by ms) m) m)
