-- Steps of writing an integer.
use Rattle.std.proofs.Common.{◌≡◌, ℕ, zero, suc, ◌+◌, ◌-◌, ◌*◌, ◌/◌, ◌%◌, ◌^◌, ◌<◌, ◌≤◌, List, [], ◌∷◌, ◌++◌, refl, sym, ◌∙◌, ap, arith, append_assoc}
use Rattle.std.proofs.lemmas.Bool.{lt-ltb, le-ltb}
use Rattle.std.proofs.lemmas.Nat.{pow-add}
use Rattle.std.proofs.Math.Nat.{mul-le-mul_right}
use Rattle.wtp_qpack.specs.Integer.{shortest_groups, shortest_int}

-- seven more bits
pub power : (k : ℕ) → 2 ^ (7 * suc (suc k)) ≡ 128 * 2 ^ (7 * suc k)
power k = ap (λ n. 2 ^ n) (omega arith) ∙ pow-add 2 7 (7 * suc k)

-- the first byte
pub first_fits : (n flags ones v : ℕ) → n ≤ 8 → flags < 2 ^ (8 - n) → ones + 1 ≡ 2 ^ n → v ≤ ones → flags * (ones + 1) + v < 256
first_fits n flags ones v few above size small =
    let total : 8 - n + n ≡ 8 = omega arith in
    let whole : 2 ^ (8 - n) * (ones + 1) ≡ 256 = ap (λ k. 2 ^ (8 - n) * k) size ∙ sym (pow-add 2 (8 - n) n) ∙ ap (λ k. 2 ^ k) total in
    let p : (flags + 1) * (ones + 1) ≤ 2 ^ (8 - n) * (ones + 1) = mul-le-mul_right (ones + 1) (omega arith) in
    omega arith

-- What was written, and the groups of what is left, are the whole.
pub record Writes (whole out : List ℕ) (left : ℕ) : Type 0 where
  pub turns : ℕ
  pub fits : left < 2 ^ (7 * suc turns)
  pub so_far : out ++ shortest_groups turns left ≡ whole

pub writes_first : (n flags ones v : ℕ) (old out : List ℕ) → ones + 1 ≡ 2 ^ n → v < 2 ^ 64 → ones ≤ v → out ≡ old ++ (flags * (ones + 1) + ones) ∷ []
    → Writes (old ++ shortest_int n flags v) out (v - ones)
unfolding shortest_int
writes_first n flags ones v old out size small above e =
    let all : ones + 1 - 1 ≡ ones = omega arith in
    record {
      turns = 9;
      fits = omega arith;
      so_far = rw (e, ← size, all, le-ltb v ones above) (append_assoc old ((flags * (ones + 1) + ones) ∷ []) (shortest_groups 9 (v - ones)));
    }

pub writes_more : (whole out next : List ℕ) (left : ℕ) → Writes whole out left → 128 ≤ left → next ≡ out ++ (left % 128 + 128) ∷ [] → Writes whole next (left / 128)
unfolding shortest_groups
writes_more whole out next left w many e = by_turns w.turns w.fits w.so_far
  where
    by_turns : (turns : ℕ) → left < 2 ^ (7 * suc turns) → out ++ shortest_groups turns left ≡ whole → Writes whole next (left / 128)
    by_turns zero fits so_far = absurd (omega arith)
    by_turns (suc k) fits so_far = record {
      turns = k;
      fits = omega (arith, power k);
      so_far = rw e (append_assoc out ((left % 128 + 128) ∷ []) (shortest_groups k (left / 128)) ∙ rw (le-ltb left 128 many) at so_far);
    }

pub writes_last : (whole out next : List ℕ) (left : ℕ) → Writes whole out left → left < 128 → next ≡ out ++ left ∷ [] → next ≡ whole
unfolding shortest_groups
writes_last whole out next left w few e = by_turns w.turns w.so_far
  where
    by_turns : (turns : ℕ) → out ++ shortest_groups turns left ≡ whole → next ≡ whole
    by_turns zero so_far = e ∙ so_far
    by_turns (suc k) so_far = e ∙ rw (lt-ltb left 128 few) at so_far

-- no group is needed
pub only_int : (n flags ones v : ℕ) → ones + 1 ≡ 2 ^ n → v < ones → (flags * (ones + 1) + v) ∷ [] ≡ shortest_int n flags v
unfolding shortest_int
only_int n flags ones v size below =
    let all : ones + 1 - 1 ≡ ones = omega arith in
    rw (← size, all, lt-ltb v ones below) refl
