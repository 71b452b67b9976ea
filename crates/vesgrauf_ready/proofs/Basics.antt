-- Ranks, choices and the members of a list.
use Rattle.std.proofs.Common.{◌≡◌, ◌⊎◌, ℕ, ◌≤◌, ◌==◌, ◌||◌, ◌&&◌, cond, inl, inr, Bool, true, false, List, [], ◌∷◌, length, refl, ap, ◌∙◌, subst, arith}
use Rattle.std.proofs.Math.Nat.{le-max_left, le-max_right, max-le}
use Rattle.std.specs.List.{list_any}
use Rattle.vesgrauf_ready.specs.declared.rank.Rank.{Rank}
use Rattle.vesgrauf_ready.specs.Ranks.{before, is_same}
use Rattle.vesgrauf_ready.specs.Turns.{is_ready, has_class, last_id, place}

pub trans : (a b c : Rank) → before a b ≡ true → before b c ≡ true → before a c ≡ true
trans a b c e f = grind (arith, e, f)

pub total : (a b : Rank) → before a b ≡ false → is_same a b ≡ false → before b a ≡ true
total a b e f = grind (arith, e, f)

pub never : (a : Rank) → before a a ≡ false
never a = grind arith

pub same_class : (a b : Rank) → is_same a b ≡ true → a.class ≡ b.class
same_class a b e = grind (arith, e)

pub same_id : (a b : Rank) → is_same a b ≡ true → a.id ≡ b.id
same_id a b e = grind (arith, e)

pub same_is : (a b : Rank) → is_same a b ≡ true → a ≡ b
same_is a b e =
    ap (λ (c : ℕ). place c a.id) (same_class a b e) ∙ ap (λ (i : ℕ). place b.class i) (same_id a b e)

pub yes_or_no : (b : Bool) → (b ≡ true) ⊎ (b ≡ false)
yes_or_no true = inl refl
yes_or_no false = inr refl

pub both : (a b : Bool) → (a && b) ≡ true → (a ≡ true) × (b ≡ true)
both true true e = (refl, refl)
both true false e = cc e
both false b e = cc e

pub either : (a b : Bool) → (a || b) ≡ true → (a ≡ true) ⊎ (b ≡ true)
either true b e = inl refl
either false b e = inr e

pub when_true : (b p q : Bool) → b ≡ true → cond b p q ≡ true → p ≡ true
when_true true p q e f = f
when_true false p q e f = cc e

pub when_false : (b p q : Bool) → b ≡ false → cond b p q ≡ true → q ≡ true
when_false true p q e f = cc e
when_false false p q e f = f

pub or_true : (b : Bool) → (b || true) ≡ true
or_true true = refl
or_true false = refl

pub behind : (a b c : Rank) → before a b ≡ false → before b c ≡ false → before a c ≡ false
behind a b c e f = grind (arith, e, f)

same_self : (a : Rank) → is_same a a ≡ true
same_self a = grind arith

pub eq_by : (a b : ℕ) → (a == b) ≡ true → a ≡ b
eq_by a b e = grind (arith, e)

pub by_eq : (a b : ℕ) → a ≡ b → (a == b) ≡ true
by_eq a b e = grind (arith, e)

pub by_other : (a b : ℕ) → (a ≡ b → ⊥) → (a == b) ≡ false
by_other a b other = elim (yes_or_no (a == b)) [
  | inl same ↦ absurd (other (eq_by a b same))
  | inr differ ↦ differ
]

-- ---- the members of a list

pub not_idle : (x : Rank) (ks : List Rank) → is_ready x ks ≡ true → (length ks == 0) ≡ false
not_idle x [] there = cc there
not_idle x (k ∷ ks) there = grind arith

pub any_true : (P : Rank → Bool) (y : Rank) (ks : List Rank) → is_ready y ks ≡ true → P y ≡ true → list_any P ks ≡ true
any_true P y [] there holds = cc there
any_true P y (k ∷ ks) there holds = elim (either (is_same y k) (is_ready y ks) there) [
  | inl same ↦
      let at : P k ≡ true = subst (λ (z : Rank). P z ≡ true) (same_is y k same) holds in
      rw at refl
  | inr later ↦ rw (any_true P y ks later holds) (or_true (P k))
]

pub any_false : (P : Rank → Bool) (ks : List Rank) → ((y : Rank) → is_ready y ks ≡ true → P y ≡ false) → list_any P ks ≡ false
any_false P [] none = refl
any_false P (k ∷ ks) none =
    let at : P k ≡ false = none k (rw (same_self k) refl) in
    rw (at, any_false P ks (λ y there. none y (rw there (or_true (is_same y k))))) refl

-- ---- the members of a class

abbrev pub is_in : ℕ → Rank → Bool
is_in c y = y.class == c

pub any_class : (c : ℕ) (old new : List Rank) → ((z : Rank) → is_ready z new ≡ true → is_in c z ≡ true → is_ready z old ≡ true) → has_class c new ≡ true → has_class c old ≡ true
any_class c old new sub has = elim (yes_or_no (has_class c old)) [
  | inl some ↦ some
  | inr none ↦ absurd (cc (
    has,
    any_false (is_in c) new (λ z there. elim (yes_or_no (is_in c z)) [
      | inl is ↦ absurd (cc (none, any_true (is_in c) z old (sub z there is) is))
      | inr out ↦ out
    ]),
  ))
]

pub last_most : (c : ℕ) (y : Rank) (ks : List Rank) → is_ready y ks ≡ true → is_in c y ≡ true → y.id ≤ last_id c ks
last_most c y [] there is = cc there
last_most c y (k ∷ ks) there is = elim (either (is_same y k) (is_ready y ks) there) [
  | inl same ↦
      let e : y ≡ k = same_is y k same in
      let at : is_in c k ≡ true = subst (λ (z : Rank). is_in c z ≡ true) e is in
      rw at (omega (arith, le-max_left k.id (last_id c ks), ap (λ (z : Rank). z.id) e))
  | inr later ↦ elim (yes_or_no (is_in c k)) [
    | inl within ↦ rw within (omega (arith, le-max_right k.id (last_id c ks), last_most c y ks later is))
    | inr out ↦ rw out (last_most c y ks later is)
  ]
]

pub last_few : (c n : ℕ) (ks : List Rank) → ((y : Rank) → is_ready y ks ≡ true → is_in c y ≡ true → y.id ≤ n) → last_id c ks ≤ n
last_few c n [] each = omega arith
last_few c n (k ∷ ks) each =
    let rest : last_id c ks ≤ n = last_few c n ks (λ y there. each y (rw there (or_true (is_same y k)))) in
    elim (yes_or_no (is_in c k)) [
      | inl within ↦ rw within (max-le (each k (rw (same_self k) refl) within) rest)
      | inr out ↦ rw out rest
    ]
