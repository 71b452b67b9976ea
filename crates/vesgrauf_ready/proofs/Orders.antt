-- The order of ranks is that in which the set keeps them.
use Rattle.std.proofs.Common.{◌≡◌, ◌⊎◌, ℕ, ◌+◌, ◌<◌, ◌≤◌, ◌||◌, ◌&&◌, not, cond, inl, inr, Bool, true, false, List, [], ◌∷◌, length, Option, Some, None, Bor, refl, ap, ◌∙◌, sym, subst, arith}
use Rattle.std.specs.Prelude.{IsTrue, IsSome, IfSome, MatchOption}
use Rattle.std.specs.Option.{option_copied}
use Rattle.std.specs.declared.cmp.Ordering.{Ordering}
use Rattle.std.specs.declared.cmp.Ordering.TheVariants.{Less, Equal, Greater}
use Rattle.std.specs.Ordering.{is_lt, is_gt, is_eq}
use Rattle.std.specs.BTreeSet.{BTreeSet, contains, IsLowerBound, IsUpperBound, IsKeyInRange, IsKeyRangeOf, Updates}
use Rattle.std.specs.Map.Iter.{TakesFirst, TakesLast}
use Rattle.std.specs.declared.ops.Bound.TheVariants.{Excluded, Unbounded}
use Rattle.std.specs.List.{list_any, slice_get}
use Rattle.std.proofs.lemmas.Bool.{cases_order}
use Rattle.vesgrauf_ready.specs.declared.rank.Rank.{Rank}
use Rattle.vesgrauf_ready.specs.contracts.rank.RankOrd.TheImpl as ord
use Rattle.vesgrauf_ready.specs.Ranks.{before, is_same}
use Rattle.vesgrauf_ready.specs.Turns.{is_ready, IsIdle, IsFirst, IsLast, IsLastBefore, HasNoneBefore, IsFirstAfter, HasNoneAfter, is_first, has_class, last_id, place}
use Rattle.vesgrauf_ready.proofs.Basics.{yes_or_no, behind, by_eq, by_other, any_true, any_false, is_in, last_most, last_few}

lt_by : (a b : Rank) → (a.class ≡ b.class) ⊎ ((a.class < b.class) ⊎ (b.class < a.class)) → (a.id ≡ b.id) ⊎ ((a.id < b.id) ⊎ (b.id < a.id)) → is_lt (ord.cmp-value.it a b) ≡ before a b
lt_by a b (inl c) (inl i) = grind (arith, c, i)
lt_by a b (inl c) (inr (inl i)) = grind (arith, c, i)
lt_by a b (inl c) (inr (inr i)) = grind (arith, c, i)
lt_by a b (inr (inl c)) i = grind (arith, c)
lt_by a b (inr (inr c)) i = grind (arith, c)

pub lt_before : (a b : Rank) → is_lt (ord.cmp-value.it a b) ≡ before a b
lt_before a b = lt_by a b (cases_order a.class b.class) (cases_order a.id b.id)

gt_by : (a b : Rank) → (a.class ≡ b.class) ⊎ ((a.class < b.class) ⊎ (b.class < a.class)) → (a.id ≡ b.id) ⊎ ((a.id < b.id) ⊎ (b.id < a.id)) → is_gt (ord.cmp-value.it a b) ≡ before b a
gt_by a b (inl c) (inl i) = grind (arith, c, i)
gt_by a b (inl c) (inr (inl i)) = grind (arith, c, i)
gt_by a b (inl c) (inr (inr i)) = grind (arith, c, i)
gt_by a b (inr (inl c)) i = grind (arith, c)
gt_by a b (inr (inr c)) i = grind (arith, c)

pub gt_before : (a b : Rank) → is_gt (ord.cmp-value.it a b) ≡ before b a
gt_before a b = gt_by a b (cases_order a.class b.class) (cases_order a.id b.id)

eq_by : (a b : Rank) → (a.class ≡ b.class) ⊎ ((a.class < b.class) ⊎ (b.class < a.class)) → (a.id ≡ b.id) ⊎ ((a.id < b.id) ⊎ (b.id < a.id)) → is_eq (ord.cmp-value.it a b) ≡ is_same a b
eq_by a b (inl c) (inl i) = grind (arith, c, i)
eq_by a b (inl c) (inr (inl i)) = grind (arith, c, i)
eq_by a b (inl c) (inr (inr i)) = grind (arith, c, i)
eq_by a b (inr (inl c)) i = grind (arith, c)
eq_by a b (inr (inr c)) i = grind (arith, c)

pub eq_same : (a b : Rank) → is_eq (ord.cmp-value.it a b) ≡ is_same a b
eq_same a b = eq_by a b (cases_order a.class b.class) (cases_order a.id b.id)

any_same : (P Q : Rank → Bool) → ((k : Rank) → P k ≡ Q k) → (ks : List Rank) → list_any P ks ≡ list_any Q ks
any_same P Q e [] = refl
any_same P Q e (k ∷ ks) = rw (e k, any_same P Q e ks) refl

-- ---- the set

pub has_ready : (s : BTreeSet Rank) (x : Rank) → contains ord.cmp-value.it s x ≡ is_ready x s.keys
has_ready s x = any_same (λ k. is_eq (ord.cmp-value.it x k)) (is_same x) (eq_same x) s.keys

is_less : (o : Ordering) → is_lt o ≡ true → o ≡ Less
is_less Less e = refl
is_less Equal e = cc e
is_less Greater e = cc e

idle : (ks : List Rank) → (0 < length ks → ⊥) → IsIdle ks
idle [] some y = refl
idle (k ∷ ks) some y = absurd (some (omega arith))

pub first_is : (s : BTreeSet Rank) (r : Option (Bor Rank)) → (0 < length s.keys → IsSome r) → IfSome r (λ k. IsTrue (contains ord.cmp-value.it s k.now)) → IfSome r (λ k. IsLowerBound ord.cmp-value.it s k.now)
    → MatchOption (option_copied r) (IsIdle s.keys) (IsFirst s.keys)
first_is s None some has least = idle s.keys (λ lt. cc (some lt))
first_is s (Some k) some has least = record {
  ready = sym (has_ready s k.now) ∙ has;
  first = λ y ready. sym (gt_before k.now y) ∙ least y (has_ready s y ∙ ready);
}

pub last_is : (s : BTreeSet Rank) (end : Rank) (r : List Rank) (o : Option (Bor Rank)) (t : List Rank) → IsKeyRangeOf ord.cmp-value.it Unbounded (Excluded end) s r → TakesLast (λ (k : Bor Rank). k.now) r o t
    → MatchOption (option_copied o) (HasNoneBefore s.keys end) (IsLastBefore s.keys end)
last_is s end r None t range (none, rest) = λ y ready. elim (yes_or_no (before y end)) [
  | inl earlier ↦ absurd (cc (ready, has_ready s y, range.5 none y (tt, is_less (ord.cmp-value.it y end) (lt_before y end ∙ earlier))))
  | inr not ↦ not
]
last_is s end r (Some k) t range taken = record {
  ready = sym (has_ready s k.now) ∙ (range.3 k.now t taken).1;
  earlier = sym (lt_before k.now end) ∙ ap is_lt (range.3 k.now t taken).0.1;
  last = λ y ready earlier. sym (lt_before k.now y) ∙ range.4 k.now t taken y (tt, is_less (ord.cmp-value.it y end) (lt_before y end ∙ earlier)) (has_ready s y ∙ ready);
}

pub last_all : (s : BTreeSet Rank) (r : Option (Bor Rank)) → (0 < length s.keys → IsSome r) → IfSome r (λ k. IsTrue (contains ord.cmp-value.it s k.now)) → IfSome r (λ k. IsUpperBound ord.cmp-value.it s k.now)
    → MatchOption (option_copied r) (IsIdle s.keys) (IsLast s.keys)
last_all s None some has most = idle s.keys (λ lt. cc (some lt))
last_all s (Some k) some has most = record {
  ready = sym (has_ready s k.now) ∙ has;
  last = λ y ready. sym (lt_before k.now y) ∙ most y (has_ready s y ∙ ready);
}

pub first_after_is : (s : BTreeSet Rank) (mark : Rank) (r : List Rank) (o : Option (Bor Rank)) (t : List Rank) → IsKeyRangeOf ord.cmp-value.it (Excluded mark) Unbounded s r → TakesFirst (λ (k : Bor Rank). k.now) r o t
    → MatchOption (option_copied o) (HasNoneAfter s.keys mark) (IsFirstAfter s.keys mark)
first_after_is s mark r None t range (none, rest) = λ y ready. elim (yes_or_no (before mark y)) [
  | inl later ↦ absurd (cc (ready, has_ready s y, range.5 none y (is_less (ord.cmp-value.it mark y) (lt_before mark y ∙ later), tt)))
  | inr not ↦ not
]
first_after_is s mark r (Some k) t range taken =
    let at : IsKeyInRange ord.cmp-value.it (Excluded mark) Unbounded s k.now = subst (λ (z : List Rank). IfSome (slice_get z 0) (IsKeyInRange ord.cmp-value.it (Excluded mark) Unbounded s)) taken range.1 in
    record {
      ready = sym (has_ready s k.now) ∙ at.1;
      later = sym (lt_before mark k.now) ∙ ap is_lt at.0.0;
      first = λ y ready later.
          let le : is_gt (ord.cmp-value.it k.now y) ≡ false = subst (λ (z : List Rank). IfSome (slice_get z 0) (λ q. is_gt (ord.cmp-value.it q y) ≡ false)) taken (range.2 y (is_less (ord.cmp-value.it mark y) (lt_before mark y ∙ later), tt) (has_ready s y ∙ ready)) in
          sym (gt_before k.now y) ∙ le;
    }

-- ---- a class

in_class : (l y : Rank) (c : ℕ) → before l (place (c + 1) 0) ≡ true → before l y ≡ false → is_in c y ≡ true → is_in c l ≡ true
in_class l y c e f g = grind (arith, e, f, g)

of_class : (y : Rank) (c : ℕ) → is_in c y ≡ true → before y (place (c + 1) 0) ≡ true
of_class y c e = grind (arith, e)

le_class : (l y : Rank) (c : ℕ) → before l y ≡ false → is_in c y ≡ true → is_in c l ≡ true → y.id ≤ l.id
le_class l y c f g h = grind (arith, f, g, h)

pub has_last : (ranks : List Rank) (l : Rank) (c : ℕ) → IsLastBefore ranks (place (c + 1) 0) l → is_in c l ≡ has_class c ranks
has_last ranks l c is = elim (yes_or_no (is_in c l)) [
  | inl of ↦ rw (of, any_true (is_in c) l ranks is.ready of) refl
  | inr other ↦ rw (
    other,
    any_false (is_in c) ranks (λ y there. elim (yes_or_no (is_in c y)) [
      | inl within ↦ absurd (cc (other, in_class l y c is.earlier (is.last y there (of_class y c within)) within))
      | inr out ↦ out
    ]),
  ) refl
]

out_of : (ranks : List Rank) (c : ℕ) → HasNoneBefore ranks (place (c + 1) 0) → (y : Rank) → is_ready y ranks ≡ true → is_in c y ≡ false
out_of ranks c none y there = elim (yes_or_no (is_in c y)) [
  | inl within ↦ absurd (cc (none y there, of_class y c within))
  | inr out ↦ out
]

pub has_no_last : (ranks : List Rank) (c : ℕ) → HasNoneBefore ranks (place (c + 1) 0) → false ≡ has_class c ranks
has_no_last ranks c none = sym (any_false (is_in c) ranks (out_of ranks c none))

pub id_of_last : (ranks : List Rank) (l : Rank) (c : ℕ) → IsLastBefore ranks (place (c + 1) 0) l → l.class ≡ c → l.id ≡ last_id c ranks
id_of_last ranks l c is of =
    let within = by_eq l.class c of in
    let most = last_most c l ranks is.ready within in
    let few = last_few c l.id ranks (λ y there at. le_class l y c (is.last y there (of_class y c at)) at within) in
    omega (arith, most, few)

none_of_last : (ranks : List Rank) (c : ℕ) → ((y : Rank) → is_ready y ranks ≡ true → is_in c y ≡ false) → 0 ≡ last_id c ranks
none_of_last ranks c out =
    let few = last_few c 0 ranks (λ y there within. absurd (cc (within, out y there))) in
    omega (arith, few)

pub id_of_none : (ranks : List Rank) (c : ℕ) → HasNoneBefore ranks (place (c + 1) 0) → 0 ≡ last_id c ranks
id_of_none ranks c none = none_of_last ranks c (out_of ranks c none)

pub id_of_other : (ranks : List Rank) (l : Rank) (c : ℕ) → IsLastBefore ranks (place (c + 1) 0) l → (l.class ≡ c → ⊥) → 0 ≡ last_id c ranks
id_of_other ranks l c is differ =
    let other = by_other l.class c differ in
    none_of_last ranks c (λ y there. elim (yes_or_no (is_in c y)) [
      | inl within ↦ absurd (cc (other, in_class l y c is.earlier (is.last y there (of_class y c within)) within))
      | inr out ↦ out
    ])

pub first_by : (ranks : List Rank) (f x : Rank) → IsFirst ranks f → not (before f x) ≡ is_first x ranks
first_by ranks f x is = elim (yes_or_no (before f x)) [
  | inl after ↦ rw (after, any_true (λ y. before y x) f ranks is.ready after) refl
  | inr not_after ↦ rw (not_after, any_false (λ y. before y x) ranks (λ y there. behind y f x (is.first y there) not_after)) refl
]

pub first_of_none : (ranks : List Rank) (x : Rank) → IsIdle ranks → true ≡ is_first x ranks
first_of_none ranks x idle = rw (any_false (λ y. before y x) ranks (λ y there. absurd (cc (there, idle y)))) refl

-- ---- changes

pub added : (s t : BTreeSet Rank) (x y : Rank) → Updates ord.cmp-value.it s t x true → is_ready y t.keys ≡ (is_same x y || is_ready y s.keys)
added s t x y up = sym (has_ready t y) ∙ up.0 y ∙ by (is_eq (ord.cmp-value.it x y)) (eq_same x y)
  where
    by : (b : Bool) → b ≡ is_same x y → cond b true (contains ord.cmp-value.it s y) ≡ (is_same x y || is_ready y s.keys)
    by true e = rw (sym e) refl
    by false e = rw (sym e, has_ready s y) refl

pub removed : (s t : BTreeSet Rank) (x y : Rank) → Updates ord.cmp-value.it s t x false → is_ready y t.keys ≡ (not (is_same x y) && is_ready y s.keys)
removed s t x y up = sym (has_ready t y) ∙ up.0 y ∙ by (is_eq (ord.cmp-value.it x y)) (eq_same x y)
  where
    by : (b : Bool) → b ≡ is_same x y → cond b false (contains ord.cmp-value.it s y) ≡ (not (is_same x y) && is_ready y s.keys)
    by true e = rw (sym e) refl
    by false e = rw (sym e, has_ready s y) refl

few_by : (x y : Rank) (old : List Rank) → x.class < 17 → (is_ready y old ≡ true → y.class < 17) → (is_same x y || is_ready y old) ≡ true → y.class < 17
few_by x y old few each e = grind (arith, few, each, e)

pub few_added : (x : Rank) (old new : List Rank) → x.class < 17 → ((y : Rank) → is_ready y old ≡ true → y.class < 17) → ((y : Rank) → is_ready y new ≡ (is_same x y || is_ready y old))
    → (y : Rank) → is_ready y new ≡ true → y.class < 17
few_added x old new few each is y e = few_by x y old few (each y) (sym (is y) ∙ e)

left_by : (a b : Bool) → (a && b) ≡ true → b ≡ true
left_by true b e = e
left_by false b e = cc e

pub few_removed : (x : Rank) (old new : List Rank) → ((y : Rank) → is_ready y old ≡ true → y.class < 17) → ((y : Rank) → is_ready y new ≡ (not (is_same x y) && is_ready y old))
    → (y : Rank) → is_ready y new ≡ true → y.class < 17
few_removed x old new each is y e = each y (left_by (not (is_same x y)) (is_ready y old) (sym (is y) ∙ e))
