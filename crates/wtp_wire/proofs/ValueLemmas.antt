-- The values of settings in a list of identifiers and values, in ascending order of identifiers.
use Rattle.std.proofs.Common.{◌≡◌, ◌≢◌, ℕ, ◌<◌, List, [], ◌∷◌, Option, Some, None, refl, sym, ap, ◌∙◌, arith, inl, inr, ◌⊎◌}
use Rattle.std.proofs.lemmas.Bool.{cases_order, cases_eq}
use Rattle.std.specs.declared.cmp.Ordering.TheVariants.{Less}
use Rattle.std.specs.Ordering.{nat_cmp}
use Rattle.std.specs.Map.{keys_of}
use Rattle.std.specs.List.{AllByRecursion, Contains}
use Rattle.std.specs.List.Sorted.{IsStrictlySortedBy}
use Rattle.std.proofs.lemmas.List.Elements.{recursion_from_All, All-from_recursion, Contains-append_cases, Contains-push_cases, Contains-append_left, Contains-append_right, Contains-push}
use Rattle.std.proofs.lemmas.Map.Keys.{sorted_head, sorted_tail}
use Rattle.std.proofs.lemmas.Map.Views.{All-keys-insert_entry}
use Rattle.wtp_wire.specs.Settings.{value_at, with_setting}
use Rattle.wtp_wire.proofs.SettingsLemmas.{nat_cmp-less, less-nat_cmp, greater-nat_cmp, equal-nat_cmp}

-- ---- membership

pub contains_cases : {X : Type 0} (x : X) (xs : List X) (y : X) → Contains (x ∷ xs) y → (x ≡ y) ⊎ Contains xs y
contains_cases {X} x xs y h = elim (Contains-append_cases (x ∷ []) xs y h) [
  | inl one ↦ elim (Contains-push_cases [] x y one) [ inl none ↦ absurd (omega arith) | inr e ↦ inl e ]
  | inr rest ↦ inr rest
]

pub contains_head : {X : Type 0} (x : X) (xs : List X) → Contains (x ∷ xs) x
contains_head {X} x xs = Contains-append_left (x ∷ []) xs x (Contains-push [] x)

pub contains_tail : {X : Type 0} (x : X) (xs : List X) (y : X) → Contains xs y → Contains (x ∷ xs) y
contains_tail {X} x xs y h = Contains-append_right (x ∷ []) xs y h

pub contains_none : {X : Type 0} (y : X) → Contains [] y → ⊥
contains_none y h = omega arith

pub contains_number : (ps : List (ℕ × ℕ)) (id : ℕ) → Contains (keys_of ps) id → (value : ℕ) × Contains ps (id, value)
contains_number [] id h = absurd (contains_none id h)
contains_number (p ∷ ps) id h = elim (contains_cases p.0 (keys_of ps) id h) [
  | inl e ↦ (p.1, rw (← e) (contains_head p ps))
  | inr rest ↦ let (value, found) = contains_number ps id rest in (value, contains_tail p ps (id, value) found)
]

pub contains_key : (ps : List (ℕ × ℕ)) (id value : ℕ) → Contains ps (id, value) → Contains (keys_of ps) id
contains_key [] id value h = absurd (contains_none (id, value) h)
contains_key (p ∷ ps) id value h = elim (contains_cases p ps (id, value) h) [
  | inl e ↦ rw (← ap (λ (q : ℕ × ℕ). q.0) e) (contains_head p.0 (keys_of ps))
  | inr rest ↦ contains_tail p.0 (keys_of ps) id (contains_key ps id value rest)
]

-- a property of all numbers holds for each of them
pub all_contains : (P : ℕ → Type 0) (ks : List ℕ) (k : ℕ) → AllByRecursion P ks → Contains ks k → P k
all_contains P [] k h c = absurd (contains_none k c)
all_contains P (x ∷ ks) k h c = elim (contains_cases x ks k c) [ inl e ↦ rw (← e) h.0 | inr rest ↦ all_contains P ks k h.1 rest ]

-- ---- the value of a number

pub value_at-head : (p : ℕ × ℕ) (m : List (ℕ × ℕ)) (id : ℕ) → id ≡ p.0 → value_at (p ∷ m) id ≡ Some p.1
value_at-head p m id e = rw (equal-nat_cmp id p.0 e) refl

pub value_at-tail : (p : ℕ × ℕ) (m : List (ℕ × ℕ)) (id : ℕ) → id ≢ p.0 → value_at (p ∷ m) id ≡ value_at m id
value_at-tail p m id ne = elim (cases_order id p.0) [
  | inl e ↦ absurd (ne e)
  | inr o ↦ elim o [ inl less ↦ rw (less-nat_cmp id p.0 less) refl | inr more ↦ rw (greater-nat_cmp id p.0 more) refl ]
]

with_setting-less : (p : ℕ × ℕ) (m : List (ℕ × ℕ)) (id value : ℕ) → id < p.0 → with_setting (p ∷ m) id value ≡ (id, value) ∷ p ∷ m
with_setting-less p m id value h = rw (less-nat_cmp id p.0 h) refl

with_setting-same : (p : ℕ × ℕ) (m : List (ℕ × ℕ)) (id value : ℕ) → id ≡ p.0 → with_setting (p ∷ m) id value ≡ (p.0, value) ∷ m
with_setting-same p m id value h = rw (equal-nat_cmp id p.0 h) refl

with_setting-more : (p : ℕ × ℕ) (m : List (ℕ × ℕ)) (id value : ℕ) → p.0 < id → with_setting (p ∷ m) id value ≡ p ∷ with_setting m id value
with_setting-more p m id value h = rw (greater-nat_cmp id p.0 h) refl

-- the value of the identifier that was set
pub value_at-set : (m : List (ℕ × ℕ)) (id value : ℕ) → value_at (with_setting m id value) id ≡ Some value
value_at-set [] id value = value_at-head (id, value) [] id refl
value_at-set (p ∷ m) id value = elim (cases_order id p.0) [
  | inl e ↦ ap (λ (l : List (ℕ × ℕ)). value_at l id) (with_setting-same p m id value e) ∙ value_at-head (p.0, value) m id e
  | inr o ↦ elim o [
    | inl less ↦ ap (λ (l : List (ℕ × ℕ)). value_at l id) (with_setting-less p m id value less) ∙ value_at-head (id, value) (p ∷ m) id refl
    | inr more ↦ ap (λ (l : List (ℕ × ℕ)). value_at l id) (with_setting-more p m id value more) ∙ value_at-tail p (with_setting m id value) id (λ e. omega arith) ∙ value_at-set m id value
  ]
]

value_at-rest : (p : ℕ × ℕ) (m n : List (ℕ × ℕ)) (id : ℕ) → value_at m id ≡ value_at n id → value_at (p ∷ m) id ≡ value_at (p ∷ n) id
value_at-rest p m n id e = elim (cases_eq id p.0) [
  | inl same ↦ value_at-head p m id same ∙ sym (value_at-head p n id same)
  | inr apart ↦ value_at-tail p m id apart ∙ e ∙ sym (value_at-tail p n id apart)
]

-- the values of the other identifiers
pub value_at-kept : (m : List (ℕ × ℕ)) (id value other : ℕ) → other ≢ id → value_at (with_setting m id value) other ≡ value_at m other
value_at-kept [] id value other ne = value_at-tail (id, value) [] other ne
value_at-kept (p ∷ m) id value other ne = elim (cases_order id p.0) [
  | inl e ↦ ap (λ (l : List (ℕ × ℕ)). value_at l other) (with_setting-same p m id value e) ∙ value_at-tail (p.0, value) m other (λ same. ne (same ∙ sym e)) ∙ sym (value_at-tail p m other (λ same. ne (same ∙ sym e)))
  | inr o ↦ elim o [
    | inl less ↦ ap (λ (l : List (ℕ × ℕ)). value_at l other) (with_setting-less p m id value less) ∙ value_at-tail (id, value) (p ∷ m) other ne
    | inr more ↦ ap (λ (l : List (ℕ × ℕ)). value_at l other) (with_setting-more p m id value more) ∙ value_at-rest p (with_setting m id value) m other (value_at-kept m id value other ne)
  ]
]

-- ---- ascending numbers

above_more : (low high : ℕ) (ks : List ℕ) → low < high → AllByRecursion (λ (k : ℕ). nat_cmp high k ≡ Less) ks → AllByRecursion (λ (k : ℕ). nat_cmp low k ≡ Less) ks
above_more low high [] h all = tt
above_more low high (k ∷ ks) h all = (less-nat_cmp low k (let near : high < k = nat_cmp-less high k all.0 in omega arith), above_more low high ks h all.1)

rising_cons : (p : ℕ × ℕ) (m : List (ℕ × ℕ)) → AllByRecursion (λ (k : ℕ). nat_cmp p.0 k ≡ Less) (keys_of m) → IsStrictlySortedBy nat_cmp (keys_of m) → IsStrictlySortedBy nat_cmp (keys_of (p ∷ m))
unfolding IsStrictlySortedBy
rising_cons p m all h = (all, h)

pub rising_none : IsStrictlySortedBy nat_cmp (keys_of {X = ℕ} [])
unfolding IsStrictlySortedBy
rising_none = tt

pub rising-with : (m : List (ℕ × ℕ)) (id value : ℕ) → IsStrictlySortedBy nat_cmp (keys_of m) → IsStrictlySortedBy nat_cmp (keys_of (with_setting m id value))
rising-with [] id value h = rising_cons (id, value) [] tt rising_none
rising-with (p ∷ m) id value h =
    let all = sorted_head nat_cmp p.0 (keys_of m) h in
    let rest = sorted_tail nat_cmp p.0 (keys_of m) h in
    elim (cases_order id p.0) [
      | inl e ↦ rw (with_setting-same p m id value e) (rising_cons (p.0, value) m all rest)
      | inr o ↦ elim o [
        | inl less ↦ rw (with_setting-less p m id value less) (rising_cons (id, value) (p ∷ m) (less-nat_cmp id p.0 less, above_more id p.0 (keys_of m) less all) h)
        | inr more ↦ rw (with_setting-more p m id value more) (rising_cons p (with_setting m id value) (recursion_from_All (λ (k : ℕ). nat_cmp p.0 k ≡ Less) (keys_of (with_setting m id value)) (All-keys-insert_entry nat_cmp id value (λ (k : ℕ). nat_cmp p.0 k ≡ Less) m (All-from_recursion (λ (k : ℕ). nat_cmp p.0 k ≡ Less) (keys_of m) all) (less-nat_cmp p.0 id more))) (rising-with m id value rest))
      ]
    ]

-- an identifier below all of them has no value
value_at-below : (m : List (ℕ × ℕ)) (id : ℕ) → AllByRecursion (λ (k : ℕ). nat_cmp id k ≡ Less) (keys_of m) → value_at m id ≡ None
value_at-below [] id h = refl
value_at-below (p ∷ m) id h = let near : id < p.0 = nat_cmp-less id p.0 h.0 in value_at-tail p m id (λ e. omega arith) ∙ value_at-below m id h.1

pub value_contained : (m : List (ℕ × ℕ)) (id value : ℕ) → value_at m id ≡ Some value → Contains m (id, value)
value_contained [] id value e = absurd cc
value_contained (p ∷ m) id value e = elim (cases_eq id p.0) [
  | inl same ↦ let v : p.1 ≡ value = some_is p.1 value (sym (value_at-head p m id same) ∙ e) in rw (same, ← v) (contains_head p m)
  | inr apart ↦ contains_tail p m (id, value) (value_contained m id value (sym (value_at-tail p m id apart) ∙ e))
]
  where
    some_is : (x y : ℕ) → Some x ≡ Some y → x ≡ y
    some_is x y h = cc

pub contained_value : (m : List (ℕ × ℕ)) (id value : ℕ) → IsStrictlySortedBy nat_cmp (keys_of m) → Contains m (id, value) → value_at m id ≡ Some value
contained_value [] id value h c = absurd (contains_none (id, value) c)
contained_value (p ∷ m) id value h c = elim (contains_cases p m (id, value) c) [
  | inl e ↦ value_at-head p m id (sym (ap (λ (q : ℕ × ℕ). q.0) e)) ∙ ap (λ (q : ℕ × ℕ). Some q.1) e
  | inr rest ↦
      let near : p.0 < id = nat_cmp-less p.0 id (all_contains (λ (k : ℕ). nat_cmp p.0 k ≡ Less) (keys_of m) id (sorted_head nat_cmp p.0 (keys_of m) h) (contains_key m id value rest)) in
      value_at-tail p m id (λ e. omega arith) ∙ contained_value m id value (sorted_tail nat_cmp p.0 (keys_of m) h) rest
]

-- ---- the values determine the settings

some_none : (v : ℕ) (o : Option ℕ) → o ≡ Some v → o ≡ None → ⊥
some_none v o d e = cc

some_same : (v w : ℕ) (o : Option ℕ) → o ≡ Some v → o ≡ Some w → v ≡ w
some_same v w o d e = cc

first_not_below : (p q : ℕ × ℕ) (m n : List (ℕ × ℕ)) → IsStrictlySortedBy nat_cmp (keys_of (q ∷ n)) → value_at (p ∷ m) p.0 ≡ value_at (q ∷ n) p.0 → p.0 < q.0 → ⊥
first_not_below p q m n h same less = some_none p.1 (value_at (q ∷ n) p.0) (sym same ∙ value_at-head p m p.0 refl) (value_at-below (q ∷ n) p.0 (less-nat_cmp p.0 q.0 less, above_more p.0 q.0 (keys_of n) less (sorted_head nat_cmp q.0 (keys_of n) h)))

pub same_values : (m n : List (ℕ × ℕ)) → IsStrictlySortedBy nat_cmp (keys_of m) → IsStrictlySortedBy nat_cmp (keys_of n) → ((id : ℕ) → value_at m id ≡ value_at n id) → m ≡ n
same_values [] [] h k same = refl
same_values [] (q ∷ n) h k same = absurd (some_none q.1 (value_at [] q.0) (same q.0 ∙ value_at-head q n q.0 refl) refl)
same_values (p ∷ m) [] h k same = absurd (some_none p.1 (value_at [] p.0) (sym (same p.0) ∙ value_at-head p m p.0 refl) refl)
same_values (p ∷ m) (q ∷ n) h k same = elim (cases_order p.0 q.0) [
  | inl e ↦
      let v : p.1 ≡ q.1 = some_same p.1 q.1 (value_at (q ∷ n) p.0) (sym (same p.0) ∙ value_at-head p m p.0 refl) (value_at-head q n p.0 e) in
      let rest : m ≡ n = same_values m n (sorted_tail nat_cmp p.0 (keys_of m) h) (sorted_tail nat_cmp q.0 (keys_of n) k) (tails e) in
      λ i. (e i, v i) ∷ rest i
  | inr o ↦ elim o [ inl less ↦ absurd (first_not_below p q m n k (same p.0) less) | inr more ↦ absurd (first_not_below q p n m h (sym (same q.0)) more) ]
]
  where
    tails : p.0 ≡ q.0 → (id : ℕ) → value_at m id ≡ value_at n id
    tails e id = elim (cases_eq id p.0) [
      | inl at ↦ rw at (value_at-below m p.0 (sorted_head nat_cmp p.0 (keys_of m) h) ∙ sym (rw (← e) at (value_at-below n q.0 (sorted_head nat_cmp q.0 (keys_of n) k))))
      | inr apart ↦ sym (value_at-tail p m id apart) ∙ same id ∙ value_at-tail q n id (λ at. apart (at ∙ sym e))
    ]
