-- The rounds of a class.
use Rattle.std.proofs.Common.{◌≡◌, ◌≢◌, ◌⊎◌, ℕ, ◌<◌, ◌≤◌, ◌==◌, ◌||◌, ◌&&◌, cond, not, inl, inr, Bool, true, false, List, [], ◌∷◌, length, refl, ap, ◌∙◌, sym, subst, arith}
use Rattle.std.specs.Prelude.{MatchBool, slice_index, slice_set}
use Rattle.std.proofs.lemmas.List.{get_or-set_same, get_or-set_other, length-set}
use Rattle.vesgrauf_ready.specs.declared.rank.Rank.{Rank}
use Rattle.vesgrauf_ready.specs.Ranks.{before, is_same, is_shared}
use Rattle.vesgrauf_ready.specs.Turns.{State, is_ready, is_first, has_class, last_id, IsFirst, IsInClass, IsByPriority, IsInRound, after_turn, after_round, after_class, before_join, place}
use Rattle.vesgrauf_ready.specs.Runs.{Step, Joined, Left, Turned, Leads, IsPassedOver, IsUnserved}
use Rattle.vesgrauf_ready.proofs.Basics.{same_is, yes_or_no, both, either, or_true, eq_by, by_eq, any_true, any_false, any_class, is_in, last_most}

within_class : (y : Rank) (c m e : ℕ) → before (place c m) y ≡ true → before (place c e) y ≡ false → (y.class ≡ c) × ((m < y.id) × (y.id ≤ e))
within_class y c m e f g = grind (arith, f, g)

after_by : (z : Rank) (c m : ℕ) → z.class ≡ c → m < z.id → before (place c m) z ≡ true
after_by z c m e lt = grind (arith, e, lt)

beyond_by : (z : Rank) (c m : ℕ) → z.class ≡ c → before (place c m) z ≡ true → m < z.id
beyond_by z c m e f = grind (arith, e, f)

le_by : (y z : Rank) (c : ℕ) → y.class ≡ c → z.class ≡ c → before z y ≡ false → y.id ≤ z.id
le_by y z c e f g = grind (arith, e, f, g)

lt_by : (y z : Rank) → y.class ≡ z.class → is_same y z ≡ false → y.id ≤ z.id → y.id < z.id
lt_by y z e f g = grind (arith, e, f, g)

flip : (y z : Rank) → is_same y z ≡ false → is_same z y ≡ false
flip y z e = grind (arith, e)

first_is : (y : Rank) (ranks : List Rank) → IsFirst ranks y → is_first y ranks ≡ true
first_is y ranks is = rw (any_false (λ z. before z y) ranks is.first) refl

-- ---- whose turn it is

class_of_turn : (s : State) (y : Rank) → (turn : IsByPriority s y) → turn.first.class ≡ y.class
class_of_turn s y turn = by (is_shared turn.first.class) turn.turn
  where
    by : (b : Bool) → MatchBool b (IsInClass s.ranks turn.first (slice_index s.marks turn.first.class) (slice_index s.ends turn.first.class) y) (y ≡ turn.first) → turn.first.class ≡ y.class
    by true (inl (after, end)) = sym (within_class y turn.first.class (slice_index s.marks turn.first.class) (slice_index s.ends turn.first.class) after.later end).0
    by true (inr (none, is)) = sym (ap (λ (r : Rank). r.class) is)
    by false is = sym (ap (λ (r : Rank). r.class) is)

-- a turn of a class whose round is at m and ends at e, in numbers
abbrev pub Plain : List Rank → Rank → (c m e : ℕ) → Type 0
Plain ranks y c m e =
    ((m < y.id) × ((y.id ≤ e) × ((z : Rank) → is_ready z ranks ≡ true → z.class ≡ c → m < z.id → y.id ≤ z.id)))
    ⊎ (((z : Rank) → is_ready z ranks ≡ true → z.class ≡ c → m < z.id → e < z.id) × IsFirst ranks y)

plain : (ranks : List Rank) (f y : Rank) (m e : ℕ) → IsFirst ranks f → IsInClass ranks f m e y → Plain ranks y f.class m e
plain ranks f y m e is (inl (after, end)) =
    let three = within_class y f.class m e after.later end in
    inl (three.1.0, (three.1.1, λ z there of lt. le_by y z f.class three.0 of (after.first z there (after_by z f.class m of lt))))
plain ranks f y m e is (inr (none, same)) =
    inr ((λ z there of lt. beyond_by z f.class e of (none z there (after_by z f.class m of lt))), subst (λ (z : Rank). IsFirst ranks z) (sym same) is)

turn_plain : (s : State) (y : Rank) (c : ℕ) → y.class ≡ c → is_shared c ≡ true → IsByPriority s y → Plain s.ranks y c (slice_index s.marks c) (slice_index s.ends c)
turn_plain s y c of shared turn =
    let e : turn.first.class ≡ c = class_of_turn s y turn ∙ of in
    let on : is_shared turn.first.class ≡ true = ap is_shared e ∙ shared in
    let class : IsInClass s.ranks turn.first (slice_index s.marks turn.first.class) (slice_index s.ends turn.first.class) y = subst (λ (b : Bool). MatchBool b (IsInClass s.ranks turn.first (slice_index s.marks turn.first.class) (slice_index s.ends turn.first.class) y) (y ≡ turn.first)) on turn.turn in
    subst (λ (k : ℕ). Plain s.ranks y k (slice_index s.marks k) (slice_index s.ends k)) e (plain s.ranks turn.first y (slice_index s.marks turn.first.class) (slice_index s.ends turn.first.class) turn.is class)

-- ---- one number of a list is set

not_at : (c i : ℕ) → (i == c) ≡ false → c ≢ i
not_at c i e same = cc (e, by_eq i c (sym same))

pub len_cond : (b : Bool) (xs : List ℕ) (i v : ℕ) → length (cond b (slice_set xs i v) xs) ≡ length xs
len_cond true xs i v = length-set xs i v
len_cond false xs i v = refl

pub other_cond : (b : Bool) (xs : List ℕ) (i c v : ℕ) → (i == c) ≡ false → slice_index (cond b (slice_set xs i v) xs) c ≡ slice_index xs c
other_cond true xs i c v e = get_or-set_other xs i c v 0 (not_at c i e)
other_cond false xs i c v e = refl

set_at : (xs : List ℕ) (i c v : ℕ) → i ≡ c → c < length xs → slice_index (slice_set xs i v) c ≡ v
set_at xs i c v e lt = ap (λ (j : ℕ). slice_index (slice_set xs j v) c) e ∙ get_or-set_same xs c v 0 lt

zero_stays : (b : Bool) (xs : List ℕ) (i c : ℕ) → c < length xs → slice_index xs c ≡ 0 → slice_index (cond b (slice_set xs i 0) xs) c ≡ 0
zero_stays false xs i c lt zero = zero
zero_stays true xs i c lt zero = elim (yes_or_no (i == c)) [
  | inl same ↦ set_at xs i c 0 (eq_by i c same) lt
  | inr other ↦ other_cond true xs i c 0 other ∙ zero
]

mark_after : (s : State) (y : Rank) (c : ℕ) → y.class ≡ c → is_shared c ≡ true → c < length s.marks → slice_index (after_class y s).marks c ≡ y.id
mark_after s y c of shared lt =
    let on : is_shared y.class ≡ true = ap is_shared of ∙ shared in
    rw on (set_at s.marks y.class c y.id of lt)

end_first : (s : State) (y : Rank) (c : ℕ) → y.class ≡ c → is_shared c ≡ true → c < length s.ends → is_first y s.ranks ≡ true → slice_index (after_class y s).ends c ≡ last_id c s.ranks
end_first s y c of shared lt first =
    let on : is_shared y.class ≡ true = ap is_shared of ∙ shared in
    rw (on, first) (set_at s.ends y.class c (last_id y.class s.ranks) of lt ∙ ap (λ (k : ℕ). last_id k s.ranks) of)

no_first : (a b : Bool) (xs ys : List ℕ) → b ≡ false → cond (a && b) ys xs ≡ xs
no_first true b xs ys e = rw e refl
no_first false b xs ys e = refl

-- ---- none takes two turns in a row

pub shares : (s : State) (x y z : Rank) → x.class < length s.marks → x.class < length s.ends → is_shared x.class ≡ true → IsByPriority s x → is_ready y s.ranks ≡ true → y.class ≡ x.class → is_same y x ≡ false → IsByPriority (after_class x s) z → is_same z x ≡ false
shares s x y z marks ends shared turn ready of other next = elim (yes_or_no (is_same z x)) [
  | inl same ↦
      let again : IsByPriority (after_class x s) x = subst (λ (r : Rank). IsByPriority (after_class x s) r) (same_is z x same) next in
      absurd (twice (turn_plain (after_class x s) x x.class refl shared again))
  | inr out ↦ out
]
  where
    twice : Plain s.ranks x x.class (slice_index (after_class x s).marks x.class) (slice_index (after_class x s).ends x.class) → ⊥
    twice (inl (lt, rest)) = omega (arith, lt, mark_after s x x.class refl shared marks)
    twice (inr (none, first)) =
        let mark = mark_after s x x.class refl shared marks in
        let end = end_first s x x.class refl shared ends (first_is x s.ranks first) in
        let after : x.id < y.id = lt_by x y (sym of) (flip y x other) (le_by x y x.class refl of (first.first y ready)) in
        let most : y.id ≤ last_id x.class s.ranks = last_most x.class y s.ranks ready (by_eq y.class x.class of) in
        omega (arith, mark, end, most, none y ready of (omega (arith, mark, after)))

-- ---- first turns are in order

abbrev AtStart : ℕ → State → Type 0
AtStart c s = (c < length s.marks) × ((c < length s.ends) × (has_class c s.ranks ≡ true → slice_index s.ends c ≡ 0))

start_joins : (c : ℕ) (y : Rank) (s u : State) → is_shared c ≡ true → AtStart c s → u ≡ record (before_join y s) { ranks = u.ranks } → ((z : Rank) → is_ready z u.ranks ≡ (is_same y z || is_ready z s.ranks)) → AtStart c u
start_joins c y s u shared (marks, (ends, zero)) same has =
    let e : u.ends ≡ (before_join y s).ends = ap (λ (v : State). v.ends) same in
    let m : u.marks ≡ s.marks = ap (λ (v : State). v.marks) same in (
      subst (λ (l : List ℕ). c < length l) (sym m) marks,
      (
        subst (λ (l : List ℕ). c < length l) (sym e) (rw (len_cond (is_shared y.class && not (has_class y.class s.ranks)) s.ends y.class 0) ends),
        λ now. ap (λ (l : List ℕ). slice_index l c) e ∙ over now,
      ),
    )
  where
    class_is : (z : Rank) → is_same y z ≡ true → is_in c z ≡ true → is_in c y ≡ true
    class_is z e f = grind (arith, e, f)

    over : has_class c u.ranks ≡ true → slice_index (before_join y s).ends c ≡ 0
    over now = elim (yes_or_no (has_class c s.ranks)) [
      | inl some ↦ zero_stays (is_shared y.class && not (has_class y.class s.ranks)) s.ends y.class c ends (zero some)
      | inr none ↦ elim (yes_or_no (is_in c y)) [
        | inl of ↦
            let k : y.class ≡ c = eq_by y.class c of in
            let on : is_shared y.class ≡ true = ap is_shared k ∙ shared in
            let off : has_class y.class s.ranks ≡ false = ap (λ (j : ℕ). has_class j s.ranks) k ∙ none in
            rw (on, off) (set_at s.ends y.class c 0 k ends)
        | inr out ↦ absurd (cc (
          none,
          any_class c s.ranks u.ranks (λ z there is. elim (either (is_same y z) (is_ready z s.ranks) (sym (has z) ∙ there)) [
            | inl new ↦ absurd (cc (out, class_is z new is))
            | inr old ↦ old
          ]) now,
        ))
      ]
    ]

start_leaves : (c : ℕ) (y : Rank) (s u : State) → AtStart c s → u ≡ record s { ranks = u.ranks } → ((z : Rank) → is_ready z u.ranks ≡ (not (is_same y z) && is_ready z s.ranks)) → AtStart c u
start_leaves c y s u (marks, (ends, zero)) same has =
    let e : u.ends ≡ s.ends = ap (λ (v : State). v.ends) same in
    let m : u.marks ≡ s.marks = ap (λ (v : State). v.marks) same in (
      subst (λ (l : List ℕ). c < length l) (sym m) marks,
      (
        subst (λ (l : List ℕ). c < length l) (sym e) ends,
        λ now. ap (λ (l : List ℕ). slice_index l c) e ∙ zero (any_class c s.ranks u.ranks (λ z there is. (both (not (is_same y z)) (is_ready z s.ranks) (sym (has z) ∙ there)).1) now),
      ),
    )

start_turns : (c : ℕ) (y : Rank) (s : State) → AtStart c s → (y.class == c) ≡ false → AtStart c (after_turn y s)
start_turns c y s (marks, (ends, zero)) out = elim (yes_or_no (s.left == 1)) [
  | inl one ↦ rw one (marks, (ends, zero))
  | inr more ↦ rw more (
    rw (len_cond (is_shared y.class) s.marks y.class y.id) marks,
    (
      rw (len_cond (is_shared y.class && is_first y s.ranks) s.ends y.class (last_id y.class s.ranks)) ends,
      λ now. other_cond (is_shared y.class && is_first y s.ranks) s.ends y.class c (last_id y.class s.ranks) out ∙ zero now,
    ),
  )
]

start : (c : ℕ) → is_shared c ≡ true → (steps : List Step) (s t : State) → AtStart c s → Leads steps s t → IsUnserved c steps → AtStart c t
start c shared [] s t at leads un = subst (AtStart c) (sym leads) at
start c shared (Joined y ∷ steps) s t at (u, (same, has), leads) un = start c shared steps u t (start_joins c y s u shared at same has) leads un
start c shared (Left y ∷ steps) s t at (u, (same, has), leads) un = start c shared steps u t (start_leaves c y s u at same has) leads un
start c shared (Turned y ∷ steps) s t at (next, leads) un = start c shared steps (after_turn y s) t (start_turns c y s at un.0) leads un.1

abbrev Waits : Rank → State → Type 0
Waits x s =
    (x.class < length s.marks) × ((x.class < length s.ends) × ((is_ready x s.ranks ≡ true)
    × ((slice_index s.ends x.class ≡ 0) ⊎ ((slice_index s.marks x.class < x.id) × (x.id ≤ slice_index s.ends x.class)))))

-- its place in the round is as it was
wait_stays : (x : Rank) (s u : State) → length u.marks ≡ length s.marks → length u.ends ≡ length s.ends → is_ready x u.ranks ≡ true → slice_index u.marks x.class ≡ slice_index s.marks x.class → slice_index u.ends x.class ≡ slice_index s.ends x.class → Waits x s → Waits x u
wait_stays x s u lm le there m e (marks, (ends, (ready, at))) = (rw lm marks, (rw le ends, (there, rw (m, e) at)))

wait_joins : (x y : Rank) (s u : State) → Waits x s → u ≡ record (before_join y s) { ranks = u.ranks } → ((z : Rank) → is_ready z u.ranks ≡ (is_same y z || is_ready z s.ranks)) → Waits x u
wait_joins x y s u (marks, (ends, (ready, at))) same has =
    let e : u.ends ≡ (before_join y s).ends = ap (λ (v : State). v.ends) same in
    let m : u.marks ≡ s.marks = ap (λ (v : State). v.marks) same in
    wait_stays x s u (ap length m)
    (ap length e ∙ len_cond (is_shared y.class && not (has_class y.class s.ranks)) s.ends y.class 0)
    (has x ∙ rw ready (or_true (is_same y x)))
    (ap (λ (l : List ℕ). slice_index l x.class) m)
    (ap (λ (l : List ℕ). slice_index l x.class) e ∙ unchanged)
    (marks, (ends, (ready, at)))
  where
    unchanged : slice_index (before_join y s).ends x.class ≡ slice_index s.ends x.class
    unchanged = elim (yes_or_no (y.class == x.class)) [
      | inl of ↦
          let some : has_class y.class s.ranks ≡ true = any_true (is_in y.class) x s.ranks ready (by_eq x.class y.class (sym (eq_by y.class x.class of))) in
          ap (λ (l : List ℕ). slice_index l x.class) (no_first (is_shared y.class) (not (has_class y.class s.ranks)) s.ends (slice_set s.ends y.class 0) (rw some refl))
      | inr out ↦ other_cond (is_shared y.class && not (has_class y.class s.ranks)) s.ends y.class x.class 0 out
    ]

pub first_turn : (x y : Rank) (s : State) → is_shared x.class ≡ true → Waits x s → IsByPriority s y → y.class ≡ x.class → y.id ≤ x.id
first_turn x y s shared (marks, (ends, (ready, at))) turn of = by (turn_plain s y x.class of shared turn) at
  where
    by : Plain s.ranks y x.class (slice_index s.marks x.class) (slice_index s.ends x.class) → (slice_index s.ends x.class ≡ 0) ⊎ ((slice_index s.marks x.class < x.id) × (x.id ≤ slice_index s.ends x.class)) → y.id ≤ x.id
    by (inl (lt, (le, least))) (inl zero) = omega (arith, lt, le, zero)
    by (inl (lt, (le, least))) (inr (after, end)) = least x ready refl after
    by (inr (none, first)) now = le_by y x x.class of refl (first.first x ready)

wait_class : (x y : Rank) (s : State) → is_shared x.class ≡ true → Waits x s → IsByPriority s y → is_same y x ≡ false → Waits x (after_class y s)
wait_class x y s shared (marks, (ends, (ready, at))) turn other = elim (yes_or_no (y.class == x.class)) [
  | inr out ↦
      wait_stays x s (after_class y s)
      (len_cond (is_shared y.class) s.marks y.class y.id)
      (len_cond (is_shared y.class && is_first y s.ranks) s.ends y.class (last_id y.class s.ranks))
      ready
      (other_cond (is_shared y.class) s.marks y.class x.class y.id out)
      (other_cond (is_shared y.class && is_first y s.ranks) s.ends y.class x.class (last_id y.class s.ranks) out)
      (marks, (ends, (ready, at)))
  | inl is ↦
      let of : y.class ≡ x.class = eq_by y.class x.class is in
      let mark = mark_after s y x.class of shared marks in
      let before : y.id < x.id = lt_by y x of other (first_turn x y s shared (marks, (ends, (ready, at))) turn of) in (
        rw (len_cond (is_shared y.class) s.marks y.class y.id) marks,
        (
          rw (len_cond (is_shared y.class && is_first y s.ranks) s.ends y.class (last_id y.class s.ranks)) ends,
          (ready, inr (omega (arith, mark, before), end of (turn_plain s y x.class of shared turn) at)),
        ),
      )
]
  where
    end : y.class ≡ x.class → Plain s.ranks y x.class (slice_index s.marks x.class) (slice_index s.ends x.class) → (slice_index s.ends x.class ≡ 0) ⊎ ((slice_index s.marks x.class < x.id) × (x.id ≤ slice_index s.ends x.class)) → x.id ≤ slice_index (after_class y s).ends x.class
    end same how now = elim (yes_or_no (is_first y s.ranks)) [
      | inl first ↦ omega (arith, end_first s y x.class same shared ends first, last_most x.class x s.ranks ready (by_eq x.class x.class refl))
      | inr not_first ↦ omega (arith, ap (λ (l : List ℕ). slice_index l x.class) (no_first (is_shared y.class) (is_first y s.ranks) s.ends (slice_set s.ends y.class (last_id y.class s.ranks)) not_first), still not_first how now)
    ]
      where
        still : is_first y s.ranks ≡ false → Plain s.ranks y x.class (slice_index s.marks x.class) (slice_index s.ends x.class) → (slice_index s.ends x.class ≡ 0) ⊎ ((slice_index s.marks x.class < x.id) × (x.id ≤ slice_index s.ends x.class)) → x.id ≤ slice_index s.ends x.class
        still not_first how (inr (lt, le)) = le
        still not_first (inl (lt, (le, least))) (inl zero) = omega (arith, lt, le, zero)
        still not_first (inr (none, first)) (inl zero) = absurd (cc (not_first, first_is y s.ranks first))

waits : (x : Rank) → is_shared x.class ≡ true → (steps : List Step) (s t : State) → Waits x s → Leads steps s t → IsPassedOver x steps → Waits x t
waits x shared [] s t wait leads over = subst (Waits x) (sym leads) wait
waits x shared (Joined y ∷ steps) s t wait (u, (same, has), leads) over = waits x shared steps u t (wait_joins x y s u wait same has) leads over
waits x shared (Left y ∷ steps) s t wait (u, (same, has), leads) over =
    let e : u.ends ≡ s.ends = ap (λ (v : State). v.ends) same in
    let m : u.marks ≡ s.marks = ap (λ (v : State). v.marks) same in
    let there : is_ready x u.ranks ≡ true = has x ∙ rw (over.0, wait.1.1.0) refl in
    waits x shared steps u t (wait_stays x s u (ap length m) (ap length e) there (ap (λ (l : List ℕ). slice_index l x.class) m) (ap (λ (l : List ℕ). slice_index l x.class) e) wait) leads over.1
waits x shared (Turned y ∷ steps) s t wait (next, leads) over = elim (yes_or_no (s.left == 1)) [
  | inl one ↦
      let after : after_turn y s ≡ after_round y s = rw one refl in
      waits x shared steps (after_round y s) t wait (subst (λ (z : State). Leads steps z t) after leads) over.1
  | inr more ↦
      let after : after_turn y s ≡ after_class y s = rw more refl in
      let turn : IsByPriority s y = subst (λ (b : Bool). MatchBool b (IsInRound s y) (IsByPriority s y)) more next in
      waits x shared steps (after_class y s) t (wait_class x y s shared wait turn over.0) (subst (λ (z : State). Leads steps z t) after leads) over.1
]

pub in_order : (x y : Rank) (joins steps : List Step) (s u t : State) → x.class < length s.marks → x.class < length s.ends → is_shared x.class ≡ true → has_class x.class s.ranks ≡ false → Leads joins s u → IsUnserved x.class joins → is_ready x u.ranks ≡ true → Leads steps u t → IsPassedOver x steps → IsByPriority t y → y.class ≡ x.class → y.id ≤ x.id
in_order x y joins steps s u t marks ends shared none begin un ready leads over turn of =
    let at : AtStart x.class u = start x.class shared joins s u (marks, (ends, λ some. absurd (cc (some, none)))) begin un in
    let zero : slice_index u.ends x.class ≡ 0 = at.1.1 (any_true (is_in x.class) x u.ranks ready (by_eq x.class x.class refl)) in
    first_turn x y t shared (waits x shared steps u t (at.0, (at.1.0, (ready, inl zero))) leads over) turn of
