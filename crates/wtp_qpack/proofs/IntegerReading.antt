-- Steps of reading an integer.
use Rattle.std.proofs.Common.{◌≡◌, ℕ, zero, suc, ◌+◌, ◌-◌, ◌*◌, ◌/◌, ◌%◌, ◌^◌, ◌<◌, ◌≤◌, inl, inr, min, List, [], ◌∷◌, length, drop, drop-cons, get_or, refl, sym, ◌∙◌, ap, arith, pow_mono, Ok, Err}
use Rattle.std.proofs.lemmas.Bool.{cases_lt, le-leb, lt-leb, lt-ltb, le-ltb, eq-eqb, ne_eqb}
use Rattle.std.proofs.Math.Numerals.{add-one}
use Rattle.std.proofs.Math.ListN.{drop_of_length-le}
use Rattle.std.proofs.lemmas.Nat.{pow_pos, shr_split, mod_below}
use Rattle.std.proofs.Math.Nat.{mul-le-mul_right, mul-le-mul_left}
use Rattle.wtp_qpack.specs.declared.qpack.DecodingError.TheVariants.{UnexpectedFin, IntegerOverflow}
use Rattle.wtp_qpack.specs.Integer.{groups_at, integer_at}

-- a group that does not fit, by its position
pub too_wide : (low shift : ℕ) → 0 < low → 64 ≤ shift → 2 ^ 64 ≤ low * 2 ^ shift
too_wide low shift some wide =
    let p : 2 ^ 64 ≤ 2 ^ shift = pow_mono {i = 64} {j = shift} wide in
    let q : 1 * 2 ^ shift ≤ low * 2 ^ shift = mul-le-mul_right (2 ^ shift) some in
    omega arith

-- a group that does not fit, by its value
pub too_high : (low shift : ℕ) → 18446744073709551615 / 2 ^ shift < low → 2 ^ 64 ≤ low * 2 ^ shift
too_high low shift h =
    let q : (18446744073709551615 / 2 ^ shift + 1) * 2 ^ shift ≤ low * 2 ^ shift = mul-le-mul_right (2 ^ shift) (omega arith) in
    omega (arith, shr_split 18446744073709551615 shift, mod_below 18446744073709551615 (2 ^ shift) (pow_pos shift))

-- the stored shift is capped: if the sum fits, it is the true one
capped : (value low k shift : ℕ) → shift ≡ min (7 * k) 70 → value + low * 2 ^ shift < 2 ^ 64 → value + low * 2 ^ (7 * k) ≡ value + low * 2 ^ shift
capped value zero k shift e h = omega arith
capped value (suc low) k shift e h = elim (cases_lt k 10) [
  | inl few ↦
      let same : 7 * k ≡ shift = omega arith in
      rw same refl
  | inr many ↦
      let wide : 2 ^ 64 ≤ suc low * 2 ^ shift = too_wide (suc low) shift (omega arith) (omega arith) in
      absurd (omega arith)
]

-- if it does not fit, the true one does not either
capped_over : (value low k shift : ℕ) → shift ≡ min (7 * k) 70 → 2 ^ 64 ≤ value + low * 2 ^ shift → 2 ^ 64 ≤ value + low * 2 ^ (7 * k)
capped_over value low k shift e h =
    let p : 2 ^ shift ≤ 2 ^ (7 * k) = pow_mono {i = shift} {j = 7 * k} (omega arith) in
    let q : low * 2 ^ shift ≤ low * 2 ^ (7 * k) = mul-le-mul_left low p in
    omega arith

-- one group, by the true shift
group_over : (sum k : ℕ) (bytes : List ℕ) → k < length bytes → 2 ^ 64 ≤ sum + get_or bytes k 0 % 128 * 2 ^ (7 * k) → groups_at sum k (drop k bytes) ≡ Err IntegerOverflow
unfolding groups_at
group_over sum k bytes lt h = rw (drop-cons bytes k 0 lt, le-leb (2 ^ 64) (sum + get_or bytes k 0 % 128 * 2 ^ (7 * k)) h) refl

group_last : (sum k : ℕ) (bytes : List ℕ) → k < length bytes → sum + get_or bytes k 0 % 128 * 2 ^ (7 * k) < 2 ^ 64 → get_or bytes k 0 < 128
    → groups_at sum k (drop k bytes) ≡ Ok (sum + get_or bytes k 0 % 128 * 2 ^ (7 * k), drop (suc k) bytes)
unfolding groups_at
group_last sum k bytes lt h last = rw (drop-cons bytes k 0 lt, lt-leb (2 ^ 64) (sum + get_or bytes k 0 % 128 * 2 ^ (7 * k)) h, lt-ltb (get_or bytes k 0) 128 last) refl

group_more : (sum k : ℕ) (bytes : List ℕ) → k < length bytes → sum + get_or bytes k 0 % 128 * 2 ^ (7 * k) < 2 ^ 64 → 128 ≤ get_or bytes k 0
    → groups_at sum k (drop k bytes) ≡ groups_at (sum + get_or bytes k 0 % 128 * 2 ^ (7 * k)) (suc k) (drop (suc k) bytes)
unfolding groups_at
group_more sum k bytes lt h more = rw (drop-cons bytes k 0 lt, lt-leb (2 ^ 64) (sum + get_or bytes k 0 % 128 * 2 ^ (7 * k)) h, le-ltb (get_or bytes k 0) 128 more) refl

-- one group, by the stored shift
pub over_at : (sum low k shift : ℕ) (bytes : List ℕ) → k < length bytes → low ≡ get_or bytes k 0 % 128 → shift ≡ min (7 * k) 70 → (sum + low * 2 ^ shift < 2 ^ 64 → ⊥)
    → groups_at sum k (drop k bytes) ≡ Err IntegerOverflow
over_at sum low k shift bytes lt e cap h =
    let past : 2 ^ 64 ≤ sum + low * 2 ^ shift = omega (arith, h) in
    group_over sum k bytes lt (rw (← e) (capped_over sum low k shift cap past))

pub last_at : (sum low more k shift : ℕ) (bytes : List ℕ) → k < length bytes → low ≡ get_or bytes k 0 % 128 → shift ≡ min (7 * k) 70
    → (sum + low * 2 ^ shift < 2 ^ 64) × (more ≡ sum + low * 2 ^ shift) → get_or bytes k 0 < 128 → groups_at sum k (drop k bytes) ≡ Ok (more, drop (k + 1) bytes)
last_at sum low more k shift bytes lt e cap h last =
    let same : sum + get_or bytes k 0 % 128 * 2 ^ (7 * k) ≡ more = rw (← e) (capped sum low k shift cap h.0 ∙ sym h.1) in
    group_last sum k bytes lt (rw same (omega (arith, h.0, h.1))) last ∙ rw (same, add-one k) refl

pub more_at : (sum low more k shift : ℕ) (bytes : List ℕ) → k < length bytes → low ≡ get_or bytes k 0 % 128 → shift ≡ min (7 * k) 70
    → (sum + low * 2 ^ shift < 2 ^ 64) × (more ≡ sum + low * 2 ^ shift) → 128 ≤ get_or bytes k 0 → groups_at sum k (drop k bytes) ≡ groups_at more (k + 1) (drop (k + 1) bytes)
more_at sum low more k shift bytes lt e cap h on =
    let same : sum + get_or bytes k 0 % 128 * 2 ^ (7 * k) ≡ more = rw (← e) (capped sum low k shift cap h.0 ∙ sym h.1) in
    group_more sum k bytes lt (rw same (omega (arith, h.0, h.1))) on ∙ rw (same, add-one k) refl

pub end_at : (sum k : ℕ) (bytes : List ℕ) → length bytes ≤ k → groups_at sum k (drop k bytes) ≡ Err UnexpectedFin
unfolding groups_at
end_at sum k bytes h = rw (drop_of_length-le bytes {i = k} h) refl

-- the prefix
pub int_none : (n : ℕ) (bytes : List ℕ) → length bytes < 1 → integer_at n bytes ≡ Err UnexpectedFin
unfolding integer_at
int_none n [] h = refl
int_none n (b ∷ bs) h = absurd (omega arith)

pub int_long : (n ones v : ℕ) (bytes : List ℕ) → ones + 1 ≡ 2 ^ n → 0 < length bytes → v ≡ get_or bytes 0 0 % (ones + 1) → v ≡ ones
    → integer_at n bytes ≡ groups_at v 0 (drop 1 bytes)
unfolding integer_at
int_long n ones v [] size some e all = absurd (omega arith)
int_long n ones v (b ∷ bs) size some e all =
    let same : v ≡ 2 ^ n - 1 = omega arith in
    rw (eq-eqb (b % 2 ^ n) (2 ^ n - 1) (rw (← size) (sym e) ∙ same), ← same) refl

pub int_short : (n ones v : ℕ) (bytes : List ℕ) → ones + 1 ≡ 2 ^ n → 0 < length bytes → v ≡ get_or bytes 0 0 % (ones + 1) → (v ≡ ones → ⊥)
    → integer_at n bytes ≡ Ok (v, drop 1 bytes)
unfolding integer_at
int_short n ones v [] size some e other = absurd (omega arith)
int_short n ones v (b ∷ bs) size some e other =
    let low : v ≡ b % 2 ^ n = e ∙ ap (λ k. b % k) size in
    rw (ne_eqb (b % 2 ^ n) (2 ^ n - 1) (λ same. other (omega (arith, low, same))), ← low) refl
