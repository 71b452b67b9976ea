-- All runs of turns.
use Rattle.std.specs.Prelude.{◌≡◌, ℕ, suc, ◌+◌, ◌-◌, ◌*◌, ◌<◌, ◌≤◌, ◌==◌, true, false, List, [], ◌∷◌, length, slice_index, if◌then◌else◌}
use Rattle.std.specs.List.{list_any}
use Rattle.vesgrauf_ready.specs.declared.rank.Rank.{Rank}
use Rattle.vesgrauf_ready.specs.Ranks.{before, is_same, is_shared}
use Rattle.vesgrauf_ready.specs.Turns.{State, is_ready, has_class, Joins, Leaves, IsByPriority, IsInRound, IsNext, after_class, after_turn}

-- a stream became ready, is ready no longer, or took a turn
pub data Step : Type 0 where
  Joined : Rank → Step
  Left : Rank → Step
  Turned : Rank → Step

-- the steps lead from one state to another, and each turn is of the stream whose turn it is
abbrev pub Leads : List Step → (start end : State) → Type 0
Leads [] s t = t ≡ s
Leads (Joined x ∷ steps) s t = (u : State) × Joins x s u × Leads steps u t
Leads (Left x ∷ steps) s t = (u : State) × Leaves x s u × Leads steps u t
Leads (Turned x ∷ steps) s t = IsNext s x × Leads steps (after_turn x s) t

-- how many turns were taken
abbrev pub turns : List Step → ℕ
turns [] = 0
turns (Turned x ∷ steps) = suc (turns steps)
turns (other ∷ steps) = turns steps

-- x stays ready if it was, and takes no turn
abbrev pub IsPassedOver : Rank → List Step → Type 0
IsPassedOver x [] = Unit {0}
IsPassedOver x (Joined y ∷ steps) = IsPassedOver x steps
IsPassedOver x (Left y ∷ steps) = (is_same y x ≡ false) × IsPassedOver x steps
IsPassedOver x (Turned y ∷ steps) = (is_same y x ≡ false) × IsPassedOver x steps

-- the turns that go round all are of these streams, if so many turns are left until the next one
abbrev pub AreOf : List Rank → (fair left : ℕ) → List Step → Type 0
AreOf others fair left [] = Unit {0}
AreOf others fair left (Turned y ∷ steps) =
    ((left == 1) ≡ true → list_any (is_same y) others ≡ true)
    × AreOf others fair (if left == 1 then fair else left - 1) steps
AreOf others fair left (step ∷ steps) = AreOf others fair left steps

-- what is true of each state
abbrev pub IsFair : State → Type 0
IsFair s = (0 < s.left) × (s.left ≤ s.fair)

-- No stream starves (section 10): while it is passed over, fewer turns are taken than `fair` for itself
-- and for each other stream of which one goes round all.
abbrev pub NoneStarves : Type 0
NoneStarves =
    (x : Rank) (others : List Rank) (steps : List Step) (s t : State) → IsFair s
    → is_ready x s.ranks ≡ true → Leads steps s t → IsPassedOver x steps
    → AreOf others s.fair s.left steps
    → turns steps < s.fair * (length others + 1)

-- The more urgent are served first, and of those of one urgency that are not incremental the one with
-- the lowest ID (section 10), but for the turns of the round of all.
abbrev pub AreByUrgency : Type 0
AreByUrgency =
    (s : State) (x y : Rank) → (s.left == 1) ≡ false → IsNext s x → is_ready y s.ranks ≡ true
    → (x.class ≤ y.class)
    × (is_shared x.class ≡ false → y.class ≡ x.class → x.id ≤ y.id)

-- Streams that share the bandwidth do so (section 10): none takes two turns in a row while another one of
-- its class is ready, but for the turns of the round of all.
abbrev pub AreShared : Type 0
AreShared =
    (s : State) (x y z : Rank) → x.class < length s.marks → x.class < length s.ends
    → is_shared x.class ≡ true → IsByPriority s x
    → is_ready y s.ranks ≡ true → y.class ≡ x.class → is_same y x ≡ false
    → IsByPriority (after_class x s) z → is_same z x ≡ false

-- no stream of the class takes a turn
abbrev pub IsUnserved : ℕ → List Step → Type 0
IsUnserved class [] = Unit {0}
IsUnserved class (Turned y ∷ steps) = ((y.class == class) ≡ false) × IsUnserved class steps
IsUnserved class (step ∷ steps) = IsUnserved class steps

-- Streams that share the bandwidth and became ready while none of their class was have their first turns
-- in the order of their IDs: until x has had a turn, no turn of the class is of a higher ID, but for the
-- turns of the round of all.
abbrev pub AreInOrder : Type 0
AreInOrder =
    (x y : Rank) (joins steps : List Step) (s u t : State)
    → x.class < length s.marks → x.class < length s.ends → is_shared x.class ≡ true
    → has_class x.class s.ranks ≡ false
    → Leads joins s u → IsUnserved x.class joins → is_ready x u.ranks ≡ true
    → Leads steps u t → IsPassedOver x steps
    → IsByPriority t y → y.class ≡ x.class → y.id ≤ x.id

-- Streams beyond the end of a round of a class wait for the next one: while x is in the round and waits,
-- the turns of the class are of those between the mark and x.
abbrev pub LaterWaitInClass : Type 0
LaterWaitInClass =
    (s : State) (x y : Rank) → is_ready x s.ranks ≡ true → is_shared x.class ≡ true
    → slice_index s.marks x.class < x.id → x.id ≤ slice_index s.ends x.class
    → IsByPriority s y → y.class ≡ x.class
    → (slice_index s.marks x.class < y.id) × (y.id ≤ x.id)

-- Streams that come later do not delay one that waits: once the round is past them, its turns are of
-- places before its mark alone, until it has come to the one that waits.
abbrev pub LaterWait : Type 0
LaterWait =
    (s : State) (x y : Rank) → is_ready x s.ranks ≡ true → before x s.round ≡ true → IsInRound s y
    → (before y s.round ≡ true) × (before y x ≡ false)
