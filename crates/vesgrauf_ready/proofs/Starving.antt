-- How long a stream waits at most for its turn.
use Rattle.std.proofs.Common.{◌≡◌, ℕ, suc, ◌+◌, ◌-◌, ◌*◌, ◌<◌, ◌≤◌, ◌==◌, ◌||◌, ◌&&◌, cond, inl, inr, Bool, true, false, List, [], ◌∷◌, length, refl, ap, ◌∙◌, sym, subst, arith}
use Rattle.std.specs.Prelude.{MatchBool}
use Rattle.std.proofs.Math.Nat.{mul-le-mul_left}
use Rattle.std.specs.List.{list_any}
use Rattle.vesgrauf_ready.specs.declared.rank.Rank.{Rank}
use Rattle.vesgrauf_ready.specs.Ranks.{before, is_same}
use Rattle.vesgrauf_ready.specs.Turns.{State, is_ready, IsInRound, IsByPriority, after_turn, after_round, after_class}
use Rattle.vesgrauf_ready.proofs.Basics.{trans, total, never, same_is, yes_or_no, both, either, not_idle, when_true, when_false, or_true}
use Rattle.vesgrauf_ready.specs.Runs.{Step, Joined, Left, Turned, Leads, turns, IsPassedOver, AreOf, IsFair}

-- ---- who comes before x in the round

abbrev pub between : Rank → Rank → Rank → Bool
between x mark r = cond (before x mark) (before x r && before r mark) (before r mark || before x r)

narrows : (s : State) (x r k : Rank) → is_ready x s.ranks ≡ true → IsInRound s r → is_same r x ≡ false → between x r k ≡ true → between x s.round k ≡ true
narrows s x r k ready (inl next) other e = elim (yes_or_no (before x s.round)) [
  | inl high ↦
      let after : before x r ≡ true = total r x (next.last x ready high) other in
      let two = both (before x k) (before k r) (when_true (before x r) (before x k && before k r) (before k r || before x k) after e) in
      rw (high, two.0, trans k r s.round two.1 next.earlier) refl
  | inr low ↦ elim (yes_or_no (before x r)) [
    | inl up ↦ cc (low, trans x r s.round up next.earlier)
    | inr down ↦ elim (either (before k r) (before x k) (when_false (before x r) (before x k && before k r) (before k r || before x k) down e)) [
      | inl one ↦ rw (low, trans k r s.round one next.earlier) refl
      | inr two ↦ rw (low, two) (or_true (before k s.round))
    ]
  ]
]
narrows s x r k ready (inr (none, next)) other e =
    let low : before x s.round ≡ false = none x ready in
    let after : before x r ≡ true = total r x (next.last x ready) other in
    let two = both (before x k) (before k r) (when_true (before x r) (before x k && before k r) (before k r || before x k) after e) in
    rw (low, two.0) (or_true (before k s.round))

gone : (x r : Rank) → between x r r ≡ false
gone x r = elim (yes_or_no (before x r)) [
  | inl up ↦ rw (up, never r) refl
  | inr down ↦ rw (down, never r) refl
]

was_there : (s : State) (x r : Rank) → is_ready x s.ranks ≡ true → IsInRound s r → is_same r x ≡ false → between x s.round r ≡ true
was_there s x r ready (inl next) other = elim (yes_or_no (before x s.round)) [
  | inl high ↦ rw (high, total r x (next.last x ready high) other, next.earlier) refl
  | inr low ↦ rw (low, next.earlier) refl
]
was_there s x r ready (inr (none, next)) other = rw (none x ready, total r x (next.last x ready) other) (or_true (before r s.round))

-- ---- how many they are

abbrev pub count : (Rank → Bool) → List Rank → ℕ
count P [] = 0
count P (r ∷ rs) = cond (P r) (suc (count P rs)) (count P rs)

count_few : (P : Rank → Bool) (rs : List Rank) → count P rs ≤ length rs
count_few P [] = omega arith
count_few P (r ∷ rs) = elim (yes_or_no (P r)) [
  | inl holds ↦ rw holds (omega (arith, count_few P rs))
  | inr fails ↦ rw fails (omega (arith, count_few P rs))
]

fewer : (P Q : Rank → Bool) → ((k : Rank) → P k ≡ true → Q k ≡ true) → (rs : List Rank) → count P rs ≤ count Q rs
fewer P Q sub [] = omega arith
fewer P Q sub (r ∷ rs) = elim (yes_or_no (P r)) [
  | inl holds ↦ rw (holds, sub r holds) (omega (arith, fewer P Q sub rs))
  | inr fails ↦ elim (yes_or_no (Q r)) [
    | inl more ↦ rw (fails, more) (omega (arith, fewer P Q sub rs))
    | inr none ↦ rw (fails, none) (fewer P Q sub rs)
  ]
]

less : (P Q : Rank → Bool) (r : Rank) → ((k : Rank) → P k ≡ true → Q k ≡ true) → P r ≡ false → Q r ≡ true → (rs : List Rank) → list_any (is_same r) rs ≡ true → count P rs < count Q rs
less P Q r sub out within [] there = cc there
less P Q r sub out within (k ∷ rs) there = elim (either (is_same r k) (list_any (is_same r) rs) there) [
  | inl same ↦
      let e : r ≡ k = same_is r k same in
      let out_k : P k ≡ false = subst (λ (z : Rank). P z ≡ false) e out in
      let in_k : Q k ≡ true = subst (λ (z : Rank). Q z ≡ true) e within in
      rw (out_k, in_k) (omega (arith, fewer P Q sub rs))
  | inr later ↦ elim (yes_or_no (P k)) [
    | inl holds ↦ rw (holds, sub k holds) (omega (arith, less P Q r sub out within rs later))
    | inr fails ↦ elim (yes_or_no (Q k)) [
      | inl more ↦ rw (fails, more) (omega (arith, less P Q r sub out within rs later))
      | inr none ↦ rw (fails, none) (less P Q r sub out within rs later)
    ]
  ]
]

-- ---- so many turns at most

abbrev pub wait : State → Rank → List Rank → ℕ
wait s x others = (s.left - 1) + s.fair * count (between x s.round) others

product : (f a b : ℕ) → a < b → f * a + f ≤ f * b
product f a b lt = grind (arith, mul-le-mul_left {m = a + 1} {n = b} f (omega (arith, lt)))

pub passes : (x : Rank) (others : List Rank) (steps : List Step) (s t : State) → IsFair s → is_ready x s.ranks ≡ true → Leads steps s t → IsPassedOver x steps → AreOf others s.fair s.left steps → turns steps ≤ wait s x others
passes x others [] s t fair ready leads over are = omega arith
passes x others (Joined y ∷ steps) s t fair ready (u, (same, has), leads) over are =
    let busy : (length s.ranks == 0) ≡ false = not_idle x s.ranks ready in
    let still : wait u x others ≡ wait s x others = ap (λ (z : State). wait z x others) same ∙ rw busy refl in
    let sound : IsFair u = subst IsFair (sym same) (rw busy fair) in
    let there : is_ready x u.ranks ≡ true = has x ∙ rw ready (or_true (is_same y x)) in
    let of : AreOf others u.fair u.left steps = subst (λ (z : State). AreOf others z.fair z.left steps) (sym same) (rw busy are) in
    omega (arith, passes x others steps u t sound there leads over of, still)
passes x others (Left y ∷ steps) s t fair ready (u, (same, has), leads) over are =
    let still : wait u x others ≡ wait s x others = ap (λ (z : State). wait z x others) same in
    let sound : IsFair u = subst IsFair (sym same) fair in
    let there : is_ready x u.ranks ≡ true = has x ∙ rw (over.0, ready) refl in
    let of : AreOf others u.fair u.left steps = subst (λ (z : State). AreOf others z.fair z.left steps) (sym same) are in
    omega (arith, passes x others steps u t sound there leads over.1 of, still)
passes x others (Turned y ∷ steps) s t fair ready (next, leads) over are = elim (yes_or_no (s.left == 1)) [
  | inl one ↦
      let round : IsInRound s y = subst (λ (b : Bool). MatchBool b (IsInRound s y) (IsByPriority s y)) one next in
      let after : after_turn y s ≡ after_round y s = rw one refl in
      let rest : Leads steps (after_round y s) t = subst (λ (z : State). Leads steps z t) after leads in
      let of : AreOf others s.fair s.fair steps = subst (λ (b : Bool). AreOf others s.fair (cond b s.fair (s.left - 1)) steps) one are.1 in
      let later = passes x others steps (after_round y s) t (omega (arith, fair.0, fair.1), omega arith) ready rest over.1 of in
      let lt = less (between x y) (between x s.round) y (λ k. narrows s x y k ready round over.0) (gone x y) (was_there s x y ready round over.0) others (are.0 one) in
      omega (arith, later, product s.fair (count (between x y) others) (count (between x s.round) others) lt, fair.0, fair.1)
  | inr more ↦
      let after : after_turn y s ≡ after_class y s = rw more refl in
      let rest : Leads steps (after_class y s) t = subst (λ (z : State). Leads steps z t) after leads in
      let many : 2 ≤ s.left = several s.left fair.0 more in
      let of : AreOf others s.fair (s.left - 1) steps = subst (λ (b : Bool). AreOf others s.fair (cond b s.fair (s.left - 1)) steps) more are.1 in
      let later = passes x others steps (after_class y s) t (omega (arith, many), omega (arith, fair.1)) ready rest over.1 of in
      omega (arith, later, many)
]
  where
    several : (n : ℕ) → 0 < n → (n == 1) ≡ false → 2 ≤ n
    several n some other = grind (arith, some, other)

pub starves : (x : Rank) (others : List Rank) (steps : List Step) (s t : State) → IsFair s → is_ready x s.ranks ≡ true → Leads steps s t → IsPassedOver x steps → AreOf others s.fair s.left steps
    → turns steps < s.fair * (length others + 1)
starves x others steps s t fair ready leads over are =
    let few = passes x others steps s t fair ready leads over are in
    let all = product s.fair (count (between x s.round) others) (length others + 1) (omega (arith, count_few (between x s.round) others)) in
    omega (arith, few, all, fair.0, fair.1)

pub later_wait : (s : State) (x y : Rank) → is_ready x s.ranks ≡ true → before x s.round ≡ true → IsInRound s y → (before y s.round ≡ true) × (before y x ≡ false)
later_wait s x y ready high (inl next) = (next.earlier, next.last x ready high)
later_wait s x y ready high (inr (none, next)) = cc (none x ready, high)
