-- The computed kind agrees with the definition.
use Rattle.std.proofs.Common.{◌≡◌, ℕ, ◌*◌, ◌-◌, ◌%◌, ◌/◌, ◌≤◌, Bool, true, false, cond, eqb, List, [], ◌∷◌, Option, Some, None, refl, sym, ap, subst, ◌∙◌, arith, inl, inr, ◌⊎◌}
use Rattle.std.specs.Prelude.{◌&&◌, not}
use Rattle.std.proofs.lemmas.Bool.{eqb-true, cases_Bool}
use Rattle.std.proofs.lemmas.Bool.Decides.{nat_tests}
use Rattle.wtp_wire.specs.declared.frame.kind.FrameKind.{FrameKind}
use Rattle.wtp_wire.specs.declared.frame.kind.FrameKind.TheVariants.{Exercise}
use Rattle.wtp_wire.specs.Kind.{IsKind, IsExercise, IsKnown, is_exercise, frame_type_of, registered, kind_among, registered_kind, or_reserved, kind_of}
use Rattle.wtp_wire.specs.FrameType.{or_exercise, kind_numbered, number_of_kind_numbered}

pub exercise_test : (id : ℕ) → IsExercise id → is_exercise id ≡ true
exercise_test id h =
    let (n, e) = h in
    let sub : id - 33 ≡ 31 * n = omega arith in
    let zero_rem : (id - 33) % 31 ≡ 0 = omega arith in
    let far : 33 ≤ id = omega arith in
    grind (arith, nat_tests)

pub test_exercise : (id : ℕ) → is_exercise id ≡ true → IsExercise id
test_exercise id t =
    let far : 33 ≤ id = grind (arith, nat_tests) in
    let rem : (id - 33) % 31 ≡ 0 = grind (arith, nat_tests) in
    ((id - 33) / 31, omega arith)

-- ---- the table

-- a conditional with value x or y
pub which : {A : Type 0} (b : Bool) (x y z : A) → cond b x y ≡ z → ((b ≡ true) × (x ≡ z)) ⊎ ((b ≡ false) × (y ≡ z))
which true x y z e = inl (refl, e)
which false x y z e = inr (refl, e)

pub some_is : {A : Type 0} (x y : A) → Some x ≡ Some y → x ≡ y
some_is x y e = cc

both_true : (a b : Bool) → (a && b) ≡ true → (a ≡ true) × (b ≡ true)
both_true true b e = (refl, e)
both_true false b e = absurd (cc)

-- whether a kind has only one type
abbrev has_type : FrameKind → Bool
has_type (Exercise number) = false
has_type kind = true

-- whether each of these kinds has only one type, and it is not reserved
abbrev all_typed : List FrameKind → Bool
all_typed [] = true
all_typed (kind ∷ rest) = (has_type kind && not (is_exercise (frame_type_of kind))) && all_typed rest

-- a kind that is found has this type
kind_among-is : (kinds : List FrameKind) (id : ℕ) (kind : FrameKind) → all_typed kinds ≡ true → kind_among id kinds ≡ Some kind → (id ≡ frame_type_of kind) × (has_type kind ≡ true)
kind_among-is [] id kind typed e = absurd (cc)
kind_among-is (first ∷ rest) id kind typed e =
    let (here, there) = both_true (has_type first && not (is_exercise (frame_type_of first))) (all_typed rest) typed in
    elim (which (eqb id (frame_type_of first)) (Some first) (kind_among id rest) (Some kind) e) [
      | inl p ↦ subst (λ (k : FrameKind). (id ≡ frame_type_of k) × (has_type k ≡ true)) (some_is first kind p.1) (eqb-true id (frame_type_of first) p.0, (both_true (has_type first) (not (is_exercise (frame_type_of first))) here).0)
      | inr p ↦ kind_among-is rest id kind there p.1
    ]

-- no kind is found for a reserved type
kind_among-none : (kinds : List FrameKind) (id : ℕ) → all_typed kinds ≡ true → is_exercise id ≡ true → kind_among id kinds ≡ None
kind_among-none [] id typed reserved = refl
kind_among-none (first ∷ rest) id typed reserved =
    let (here, there) = both_true (has_type first && not (is_exercise (frame_type_of first))) (all_typed rest) typed in
    elim (cases_Bool (eqb id (frame_type_of first))) [
      | inl same ↦
          let one : not (is_exercise (frame_type_of first)) ≡ true = (both_true (has_type first) (not (is_exercise (frame_type_of first))) here).1 in
          let two : is_exercise (frame_type_of first) ≡ true = rw (sym (eqb-true id (frame_type_of first) same)) reserved in
          absurd (cc (rw two at one))
      | inr other ↦ rw other (kind_among-none rest id there reserved)
    ]

typed_kind : (kind : FrameKind) (id : ℕ) → has_type kind ≡ true → id ≡ frame_type_of kind → IsKind kind id
typed_kind (Exercise number) id typed e = absurd (cc)
typed_kind kind id typed e = e

registered_kind-is : (kind : FrameKind) (id : ℕ) → registered_kind id ≡ Some kind → IsKind kind id
unfolding registered_kind
registered_kind-is kind id e = let (same, typed) = kind_among-is registered id kind refl e in typed_kind kind id typed same

registered_kind-none : (id : ℕ) → IsExercise id → registered_kind id ≡ None
unfolding registered_kind
registered_kind-none id h = kind_among-none registered id refl (exercise_test id h)

-- ---- the kind of a type

pub kind_of-is : (kind : FrameKind) (id : ℕ) → IsKind kind id → kind_of id ≡ Some kind
unfolding kind_of registered_kind
kind_of-is (Exercise number) id h = rw (registered_kind-none id h.1, exercise_test id h.1, h.0) refl
kind_of-is kind id h = rw h refl

or_reserved-is : (found : Option FrameKind) (kind : FrameKind) (id : ℕ) → registered_kind id ≡ found → or_reserved id found ≡ Some kind → IsKind kind id
or_reserved-is (Some other) kind id f e = registered_kind-is kind id (f ∙ e)
or_reserved-is None kind id f e = elim (which (is_exercise id) (Some (Exercise id)) None (Some kind) e) [
  | inl t ↦ subst (λ (k : FrameKind). IsKind k id) (some_is (Exercise id) kind t.1) (refl, test_exercise id t.0)
  | inr t ↦ absurd (cc)
]

pub is-kind_of : (kind : FrameKind) (id : ℕ) → kind_of id ≡ Some kind → IsKind kind id
unfolding kind_of
is-kind_of kind id e = or_reserved-is (registered_kind id) kind id refl e

pub kind_of-none : (id : ℕ) → ((kind : FrameKind) → IsKind kind id → ⊥) → kind_of id ≡ None
kind_of-none id h = none_of (kind_of id) refl
  where
    none_of : (o : Option FrameKind) → kind_of id ≡ o → kind_of id ≡ None
    none_of None e = e
    none_of (Some kind) e = absurd (h kind (is-kind_of kind id e))

-- ---- a kind that is stored as its type

pub kind_numbered-is : (kind : FrameKind) (id : ℕ) → IsKind kind id → kind_numbered id ≡ kind
unfolding kind_numbered registered_kind
kind_numbered-is (Exercise number) id h = rw (registered_kind-none id h.1, h.0) refl
kind_numbered-is kind id h = rw h refl

pub is_kind-known : (kind : FrameKind) (id : ℕ) → IsKind kind id → IsKnown kind
is_kind-known (Exercise number) id h = let e : is_exercise number ≡ true = ap is_exercise h.0 ∙ exercise_test id h.1 in rw e refl
is_kind-known kind id h = tt

known_is : (kind : FrameKind) → IsKnown kind → IsKind kind (frame_type_of kind)
known_is (Exercise number) h = (refl, test_exercise number h)
known_is kind h = refl

pub kind_numbered-known : (kind : FrameKind) → IsKnown kind → kind_numbered (frame_type_of kind) ≡ kind
kind_numbered-known kind h = kind_numbered-is kind (frame_type_of kind) (known_is kind h)

pub kind_numbered-of : (kind : FrameKind) (id : ℕ) → kind_of id ≡ Some kind → kind_numbered id ≡ kind
kind_numbered-of kind id e = kind_numbered-is kind id (is-kind_of kind id e)

pub ruleset numbered = (number_of_kind_numbered, kind_numbered-known, kind_numbered-of)
