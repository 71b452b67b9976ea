-- Counts and the numbers that mean them.
use Rattle.std.proofs.Common.{◌≡◌, ℕ, zero, suc, ◌+◌, ◌-◌, ◌*◌, ◌/◌, ◌%◌, ◌<◌, ◌≤◌, ◌==◌, nat_lt, inl, inr, cond, refl, sym, ◌∙◌, ap, arith, Option, Some, None}
use Rattle.std.proofs.lemmas.Bool.{cases_lt, eq-eqb, ne_eqb, lt-ltb, le-ltb}
use Rattle.std.proofs.Math.Nat.{mul-le-mul_left, add-mod_right, div-add-mod}
use Rattle.std.proofs.lemmas.Nat.{mod-mul-add, mod_below, div-add-mod'}
use Rattle.wtp_dynamic.specs.InsertCount.{IsMeant, encoded_count, count_of}

-- two numbers with one remainder that are less than the divisor apart are the same
quotient_not_less : (f a b : ℕ) → a % f ≡ b % f → a < b + f → b / f < a / f → ⊥
quotient_not_less f a b same near less =
    let steps : f * (b / f + 1) ≤ f * (a / f) = mul-le-mul_left f (omega arith) in
    omega (arith, div-add-mod a f, div-add-mod b f)

pub same_window : (f a b : ℕ) → a % f ≡ b % f → a < b + f → b < a + f → a ≡ b
same_window f a b same near_a near_b = elim (cases_lt (b / f) (a / f)) [
  | inl less ↦ absurd (quotient_not_less f a b same near_a less)
  | inr more ↦ elim (cases_lt (a / f) (b / f)) [
    | inl less ↦ absurd (quotient_not_less f b a (sym same) near_b less)
    | inr even ↦
        let q : a / f ≡ b / f = omega arith in
        sym (div-add-mod a f) ∙ ap (λ k. f * k + a % f) q ∙ ap (λ r. f * (b / f) + r) same ∙ div-add-mod b f
  ]
]

pub meant_only : (max_entries inserts encoded a b : ℕ) → IsMeant max_entries inserts encoded a → IsMeant max_entries inserts encoded b → a ≡ b
meant_only max_entries inserts encoded a b (inl x) (inl y) = x.1 ∙ sym y.1
meant_only max_entries inserts encoded a b (inl x) (inr y) = absurd (omega (arith, x.0, y.2))
meant_only max_entries inserts encoded a b (inr x) (inl y) = absurd (omega (arith, y.0, x.2))
meant_only max_entries inserts encoded a b (inr (xa, xm, xe, xh, xl)) (inr (ya, ym, ye, yh, yl)) =
    same_window (2 * max_entries) a b (omega arith) (omega arith) (omega arith)

pub meant_by_encoded : (max_entries inserts count : ℕ) → 0 < max_entries → count ≤ inserts + max_entries → inserts < count + max_entries → IsMeant max_entries inserts (encoded_count max_entries count) count
meant_by_encoded max_entries inserts zero some high low = inl (refl, refl)
meant_by_encoded max_entries inserts (suc count) some high low = rw (ne_eqb (suc count) 0 (omega arith)) (inr (omega arith, some, refl, high, low))

-- the candidate of the algorithm: the number of the remainder between the last multiple and the
-- next
abbrev candidate : ℕ → ℕ → ℕ → ℕ
candidate f h e = h / f * f + e - 1

candidate_mod : (f h e : ℕ) → 0 < e → e ≤ f → candidate f h e % f ≡ e - 1
candidate_mod f h e some few =
    let same : candidate f h e ≡ h / f * f + (e - 1) = omega arith in
    ap (λ n. n % f) same ∙ mod-mul-add (h / f) f (e - 1) (omega arith)

candidate_near : (f h e : ℕ) → 0 < e → e ≤ f → (h < candidate f h e + f) × (candidate f h e < h + f)
candidate_near f h e some few =
    let below : h % f < f = mod_below h f (omega arith) in
    (omega (arith, div-add-mod' h f), omega (arith, div-add-mod' h f))

-- one multiple less
lowered_mod : (f c e : ℕ) → 0 < f → f < c → c % f ≡ e → (c - f) % f ≡ e
lowered_mod f c e some more same =
    let back : c ≡ (c - f) + f = omega arith in
    sym (add-mod_right (c - f) f) ∙ ap (λ n. n % f) (sym back) ∙ same

found_high : (max_entries inserts e c : ℕ) → 0 < e → e ≤ 2 * max_entries → c % (2 * max_entries) ≡ e - 1 → c < inserts + max_entries + 2 * max_entries → inserts + max_entries < c → 2 * max_entries < c → IsMeant max_entries inserts e (c - 2 * max_entries)
found_high max_entries inserts e c some few rest near past full =
    inr (omega arith, omega arith, omega (arith, lowered_mod (2 * max_entries) c (e - 1) (omega arith) full rest), omega arith, omega arith)

found_low : (max_entries inserts e c : ℕ) → 0 < e → e ≤ 2 * max_entries → c % (2 * max_entries) ≡ e - 1 → inserts + max_entries < c + 2 * max_entries → c ≤ inserts + max_entries → 0 < c → IsMeant max_entries inserts e c
found_low max_entries inserts e c some few rest near within positive = inr (positive, omega arith, omega arith, within, omega arith)

none_high : (max_entries inserts e c count : ℕ) → 0 < e → c % (2 * max_entries) ≡ e - 1 → c < inserts + max_entries + 2 * max_entries → inserts + max_entries < c → c ≤ 2 * max_entries → IsMeant max_entries inserts e count → ⊥
none_high max_entries inserts e c count some rest near past full (inl x) = omega (arith, x.0)
none_high max_entries inserts e c count some rest near past full (inr (positive, m, same, high, low)) =
    let shifted : c ≡ count + 2 * max_entries = same_window (2 * max_entries) c (count + 2 * max_entries) (rest ∙ omega arith ∙ sym (add-mod_right count (2 * max_entries))) (omega arith) (omega arith) in
    omega arith

none_low : (max_entries inserts e c count : ℕ) → 0 < e → c % (2 * max_entries) ≡ e - 1 → inserts + max_entries < c + 2 * max_entries → c ≤ inserts + max_entries → c ≡ 0 → IsMeant max_entries inserts e count → ⊥
none_low max_entries inserts e c count some rest near within zero_c (inl x) = omega (arith, x.0)
none_low max_entries inserts e c count some rest near within zero_c (inr (positive, m, same, high, low)) =
    let equal : c ≡ count = same_window (2 * max_entries) c count (omega arith) (omega arith) (omega arith) in
    omega arith

-- what count_of answers, by the cases of the algorithm
pub record Judged (max_entries inserts encoded : ℕ) (answer : Option ℕ) : Type 0 where
  pub found : (count : ℕ) → answer ≡ Some count → IsMeant max_entries inserts encoded count
  pub none : answer ≡ None → (count : ℕ) → IsMeant max_entries inserts encoded count → ⊥

judged_some : (max_entries inserts encoded count : ℕ) → IsMeant max_entries inserts encoded count → Judged max_entries inserts encoded (Some count)
judged_some max_entries inserts encoded count good = record {
  found = λ other e. let same : count ≡ other = cc e in let P : ℕ → Type 0 = λ n. IsMeant max_entries inserts encoded n in subst_by P same good;
  none = λ e. cc e;
}
  where
    subst_by : (P : ℕ → Type 0) {a b : ℕ} → a ≡ b → P a → P b
    subst_by P e x = rw (← e) x

judged_none : (max_entries inserts encoded : ℕ) → ((count : ℕ) → IsMeant max_entries inserts encoded count → ⊥) → Judged max_entries inserts encoded None
judged_none max_entries inserts encoded bad = record { found = λ count e. cc e; none = λ _. bad }

too_large : (max_entries inserts encoded count : ℕ) → 2 * max_entries < encoded → IsMeant max_entries inserts encoded count → ⊥
too_large max_entries inserts encoded count h (inl x) = omega (arith, x.0)
too_large max_entries inserts encoded count h (inr (positive, m, same, high, low)) = omega (arith, mod_below count (2 * max_entries) (omega arith))

judged_candidate : (max_entries inserts e c : ℕ) → 0 < e → e ≤ 2 * max_entries → c % (2 * max_entries) ≡ e - 1 → inserts + max_entries < c + 2 * max_entries → c < inserts + max_entries + 2 * max_entries
    → Judged max_entries inserts e (cond (nat_lt (inserts + max_entries) c) (cond (nat_lt (2 * max_entries) c) (Some (c - 2 * max_entries)) None) (cond (c == 0) None (Some c)))
judged_candidate max_entries inserts e c some few rest low high = elim (cases_lt (inserts + max_entries) c) [
  | inl past ↦ rw (lt-ltb (inserts + max_entries) c past) (elim (cases_lt (2 * max_entries) c) [
    | inl full ↦ rw (lt-ltb (2 * max_entries) c full) (judged_some max_entries inserts e (c - 2 * max_entries) (found_high max_entries inserts e c some few rest high past full))
    | inr within ↦ rw (le-ltb (2 * max_entries) c within) (judged_none max_entries inserts e (λ count. none_high max_entries inserts e c count some rest high past within))
  ])
  | inr within ↦ rw (le-ltb (inserts + max_entries) c within) (elim (cases_lt 0 c) [
    | inl positive ↦ rw (ne_eqb c 0 (omega arith)) (judged_some max_entries inserts e c (found_low max_entries inserts e c some few rest low within positive))
    | inr nothing ↦ rw (eq-eqb c 0 (omega arith)) (judged_none max_entries inserts e (λ count. none_low max_entries inserts e c count some rest low within (omega arith)))
  ])
]

pub judged : (max_entries inserts encoded : ℕ) → Judged max_entries inserts encoded (count_of max_entries inserts encoded)
judged max_entries inserts zero = judged_some max_entries inserts 0 0 (inl (refl, refl))
judged max_entries inserts (suc e) = rw (ne_eqb (suc e) 0 (omega arith)) (elim (cases_lt (2 * max_entries) (suc e)) [
  | inl over ↦ rw (lt-ltb (2 * max_entries) (suc e) over) (judged_none max_entries inserts (suc e) (λ count. too_large max_entries inserts (suc e) count over))
  | inr fits ↦
      let near = candidate_near (2 * max_entries) (inserts + max_entries) (suc e) (omega arith) fits in
      rw (le-ltb (2 * max_entries) (suc e) fits)
      (judged_candidate max_entries inserts (suc e) (candidate (2 * max_entries) (inserts + max_entries) (suc e)) (omega arith) fits
      (candidate_mod (2 * max_entries) (inserts + max_entries) (suc e) (omega arith) fits) near.0 near.1)
])

pub decoded_by : (max_entries inserts encoded count : ℕ) (answer : Option ℕ) → Judged max_entries inserts encoded answer → IsMeant max_entries inserts encoded count → answer ≡ Some count
decoded_by max_entries inserts encoded count None h good = absurd (h.none refl count good)
decoded_by max_entries inserts encoded count (Some other) h good = ap Some (meant_only max_entries inserts encoded other count (h.found other refl) good)
