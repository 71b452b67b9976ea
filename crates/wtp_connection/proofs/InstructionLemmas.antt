-- The decoder stream of QPACK in pieces, and the instructions that it may have.
use Rattle.std.proofs.Common.{◌≡◌, ℕ, zero, suc, Bool, inl, inr, sym, ◌+◌, ◌*◌, ◌/◌, ◌%◌, ◌^◌, ◌<◌, ◌≤◌, nat_lt, true, false, cond, List, [], ◌∷◌, ◌++◌, Option, Some, None, refl, ap, ◌∙◌, arith, eq-eqb}
use Rattle.std.proofs.lemmas.Bool.{false≢true, cases_Bool, cases_lt, lt-ltb, le-ltb, ne_eqb}
use Rattle.std.proofs.Math.Nat.{mul-le-mul_right}
use Rattle.wtp_qpack.specs.Integer.{IsInt, AreClosed, groups_value}
use Rattle.wtp_connection.specs.declared.instructions.DecoderPlace.{DecoderPlace}
use Rattle.wtp_connection.specs.declared.instructions.DecoderPlace.TheVariants.{Between, Within}
use Rattle.wtp_connection.specs.Instructions.{BeginsCancellation, IsCancellation, AreCancellations, next_weight, then_bytes, after_byte, after_bytes}

then_append : (o : Option DecoderPlace) (xs ys : List ℕ) → ((p : DecoderPlace) → after_bytes p (xs ++ ys) ≡ then_bytes (λ next. after_bytes next ys) (after_bytes p xs)) → then_bytes (λ next. after_bytes next (xs ++ ys)) o ≡ then_bytes (λ next. after_bytes next ys) (then_bytes (λ next. after_bytes next xs) o)
then_append None xs ys h = refl
then_append (Some p) xs ys h = h p

pub after_append : (place : DecoderPlace) (xs ys : List ℕ) → after_bytes place (xs ++ ys) ≡ then_bytes (λ next. after_bytes next ys) (after_bytes place xs)
after_append place [] ys = refl
after_append place (b ∷ xs) ys = then_append (after_byte place b) xs ys (λ p. after_append p xs ys)

-- ---- the integer of a cancellation

next_le : (w : ℕ) → next_weight w ≤ w * 128
next_le w = elim (nat_lt w (2 ^ 57)) as (λ b. cond b (w * 128) w ≤ w * 128) [ true ↦ omega arith | false ↦ omega arith ]

bound : (w n v x sum : ℕ) → n ≤ w * 128 → w * (x + 128 * v) + sum < 2 ^ 62 → n * v + (x * w + sum) < 2 ^ 62
bound w n v x sum le h = let most : n * v ≤ w * 128 * v = mul-le-mul_right v le in omega (arith, most, h)

first_bound : (w v x sum : ℕ) → w * (x + 128 * v) + sum < 2 ^ 62 → x * w + sum < 2 ^ 62
first_bound w v x sum h = omega (arith, h)

groups_read : (gs : List ℕ) (sum w : ℕ) → AreClosed gs → w * groups_value gs + sum < 2 ^ 62 → after_bytes (Within sum w) gs ≡ Some Between
groups_read [] sum w closed fits = absurd closed
groups_read (g ∷ []) sum w last fits = rw (lt-ltb (g % 128 * w + sum) (2 ^ 62) (first_bound w 0 (g % 128) sum fits), lt-ltb g 128 last) refl
groups_read (g ∷ h ∷ gs) sum w (on, closed) fits =
    rw (lt-ltb (g % 128 * w + sum) (2 ^ 62) (first_bound w (groups_value (h ∷ gs)) (g % 128) sum fits), le-ltb g 128 on) (
    groups_read (h ∷ gs) (g % 128 * w + sum) (next_weight w) closed (bound w (next_weight w) (groups_value (h ∷ gs)) (g % 128) sum (next_le w) fits))

first_read : (id : ℕ) (s : List ℕ) → IsCancellation id s → after_bytes Between s ≡ Some Between
first_read id [] h = absurd h.integer
first_read id (b ∷ []) h =
    let value : id ≡ b % 64 = h.integer.0 in
    let few : id < 63 = h.integer.1 in
    rw (eq-eqb (b / 64) 1 h.kind, ne_eqb (b % 64) 63 (λ e. omega (arith, e, value, few))) refl
first_read id (b ∷ g ∷ gs) h =
    let value : id ≡ 63 + groups_value (g ∷ gs) = h.integer.2 in
    let ones : b % 64 ≡ 63 = h.integer.0 in
    rw (eq-eqb (b / 64) 1 h.kind, eq-eqb (b % 64) 63 ones) (groups_read (g ∷ gs) 63 1 h.integer.1 (one_bound (groups_value (g ∷ gs)) id value h.below))
  where
    one_bound : (v id : ℕ) → id ≡ 63 + v → id < 2 ^ 62 → 1 * v + 63 < 2 ^ 62
    one_bound v id e l = omega (arith, e, l)

-- ---- cancellations, and what is none

pub all_read : (ids s : List ℕ) → AreCancellations ids s → after_bytes Between s ≡ Some Between
all_read [] s e = ap (λ (l : List ℕ). after_bytes Between l) e
all_read (id ∷ ids) s (first, rest, one, more, parts) =
    ap (λ (l : List ℕ). after_bytes Between l) parts
    ∙ after_append Between first rest
    ∙ ap (λ (o : Option DecoderPlace). then_bytes (λ p. after_bytes p rest) o) (first_read id first one)
    ∙ all_read ids rest more

pub other_reported : (ids s more : List ℕ) (b : ℕ) → AreCancellations ids s → (b / 64 ≡ 1 → ⊥) → after_bytes Between (s ++ (b ∷ more)) ≡ None
other_reported ids s more b h other =
    after_append Between s (b ∷ more)
    ∙ ap (λ (o : Option DecoderPlace). then_bytes (λ p. after_bytes p (b ∷ more)) o) (all_read ids s h)
    ∙ rw (ne_eqb (b / 64) 1 other) refl

-- ---- an ID of 2^62 or more

-- the weight of a group, as it is counted
abbrev weight : ℕ → ℕ
weight zero = 1
weight (suc k) = next_weight (weight k)

weight_stays : (k : ℕ) → weight (suc (suc (suc (suc (suc (suc (suc (suc (suc k))))))))) ≡ 2 ^ 63
weight_stays zero = refl
weight_stays (suc k) = ap (λ (w : ℕ). next_weight w) (weight_stays k)

large_weight : (k : ℕ) → nat_lt (weight k) (2 ^ 57) ≡ false → 2 ^ 62 ≤ weight k
large_weight zero e = absurd (false≢true (sym e))
large_weight (suc zero) e = absurd (false≢true (sym e))
large_weight (suc (suc zero)) e = absurd (false≢true (sym e))
large_weight (suc (suc (suc zero))) e = absurd (false≢true (sym e))
large_weight (suc (suc (suc (suc zero)))) e = absurd (false≢true (sym e))
large_weight (suc (suc (suc (suc (suc zero))))) e = absurd (false≢true (sym e))
large_weight (suc (suc (suc (suc (suc (suc zero)))))) e = absurd (false≢true (sym e))
large_weight (suc (suc (suc (suc (suc (suc (suc zero))))))) e = absurd (false≢true (sym e))
large_weight (suc (suc (suc (suc (suc (suc (suc (suc zero)))))))) e = absurd (false≢true (sym e))
large_weight (suc (suc (suc (suc (suc (suc (suc (suc (suc k))))))))) e = let w : weight (suc (suc (suc (suc (suc (suc (suc (suc (suc k))))))))) ≡ 2 ^ 63 = weight_stays k in omega (arith, w)

next_of : (w : ℕ) (b : Bool) → nat_lt w (2 ^ 57) ≡ b → next_weight w ≡ cond b (w * 128) w
next_of w b e = ap (λ (c : Bool). cond c (w * 128) w) e

grown : (w n v x sum : ℕ) → n ≡ w * 128 → 2 ^ 62 ≤ w * (x + 128 * v) + sum → 2 ^ 62 ≤ n * v + (x * w + sum)
grown w n v x sum e h = rw e (omega (arith, h))

stayed : (w n v x sum : ℕ) → n ≡ w → 2 ^ 62 ≤ w → 2 ^ 62 ≤ w * (x + 128 * v) + sum → x * w + sum < 2 ^ 62 → 2 ^ 62 ≤ n * v + (x * w + sum)
stayed w n zero x sum e large h few = absurd (omega (arith, h, few))
stayed w n (suc v) x sum e large h few = rw e (omega (arith, large))

still_large : (k v x sum : ℕ) → 2 ^ 62 ≤ weight k * (x + 128 * v) + sum → x * weight k + sum < 2 ^ 62 → 2 ^ 62 ≤ weight (suc k) * v + (x * weight k + sum)
still_large k v x sum h few = elim (cases_Bool (nat_lt (weight k) (2 ^ 57))) [
  | inl small ↦ grown (weight k) (weight (suc k)) v x sum (next_of (weight k) true small) h
  | inr large ↦ stayed (weight k) (weight (suc k)) v x sum (next_of (weight k) false large) (large_weight k large) h few
]

last_large : (w x sum : ℕ) → 2 ^ 62 ≤ w * (x + 128 * 0) + sum → 2 ^ 62 ≤ x * w + sum
last_large w x sum h = omega (arith, h)

groups_large : (gs : List ℕ) (sum k : ℕ) (more : List ℕ) → AreClosed gs → 2 ^ 62 ≤ weight k * groups_value gs + sum → after_bytes (Within sum (weight k)) (gs ++ more) ≡ None
groups_large [] sum k more closed large = absurd closed
groups_large (g ∷ []) sum k more last large = rw (le-ltb (g % 128 * weight k + sum) (2 ^ 62) (last_large (weight k) (g % 128) sum large)) refl
groups_large (g ∷ h ∷ gs) sum k more (on, closed) large = elim (cases_lt (g % 128 * weight k + sum) (2 ^ 62)) [
  | inl few ↦ rw (lt-ltb (g % 128 * weight k + sum) (2 ^ 62) few, le-ltb g 128 on) (
      groups_large (h ∷ gs) (g % 128 * weight k + sum) (suc k) more closed (still_large k (groups_value (h ∷ gs)) (g % 128) sum large few))
  | inr many ↦ rw (le-ltb (g % 128 * weight k + sum) (2 ^ 62) many) refl
]

first_large : (id : ℕ) (t more : List ℕ) → BeginsCancellation t → IsInt 6 id t → 2 ^ 62 ≤ id → after_bytes Between (t ++ more) ≡ None
first_large id [] more kind h large = absurd h
first_large id (b ∷ []) more kind h large = let few : id < 63 = h.1 in absurd (omega (arith, few, large))
first_large id (b ∷ g ∷ gs) more kind h large =
    let value : id ≡ 63 + groups_value (g ∷ gs) = h.2 in
    rw (eq-eqb (b / 64) 1 kind, eq-eqb (b % 64) 63 h.0) (groups_large (g ∷ gs) 63 0 more h.1 (one_bound (groups_value (g ∷ gs)) id value large))
  where
    one_bound : (v id : ℕ) → id ≡ 63 + v → 2 ^ 62 ≤ id → 2 ^ 62 ≤ 1 * v + 63
    one_bound v id e l = omega (arith, e, l)

pub large_reported : (ids s t more : List ℕ) (id : ℕ) → AreCancellations ids s → BeginsCancellation t → IsInt 6 id t → 2 ^ 62 ≤ id → after_bytes Between (s ++ (t ++ more)) ≡ None
large_reported ids s t more id h kind int large =
    after_append Between s (t ++ more)
    ∙ ap (λ (o : Option DecoderPlace). then_bytes (λ p. after_bytes p (t ++ more)) o) (all_read ids s h)
    ∙ first_large id t more kind int large
