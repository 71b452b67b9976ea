-- Whose turn it is to send (RFC 9218, section 10).
use Rattle.std.specs.Prelude.{◌≡◌, ◌⊎◌, ℕ, ◌-◌, ◌==◌, max, not, ◌&&◌, ◌||◌, if◌then◌else◌, MatchBool, Bool, true, false, List, [], ◌∷◌, length, slice_index, slice_set}
use Rattle.std.specs.List.{list_any}
use Rattle.vesgrauf_ready.specs.declared.rank.Rank.{Rank}
use Rattle.vesgrauf_ready.specs.Ranks.{before, is_same, is_shared}

-- ---- the streams that are ready

abbrev pub is_ready : Rank → List Rank → Bool
is_ready x ranks = list_any (is_same x) ranks

-- none is
abbrev pub IsIdle : List Rank → Type 0
IsIdle ranks = (y : Rank) → is_ready y ranks ≡ false

-- x is ready, and comes before all others that are
pub record IsFirst (ranks : List Rank) (x : Rank) : Type 0 where
  pub ready : is_ready x ranks ≡ true
  pub first : (y : Rank) → is_ready y ranks ≡ true → before y x ≡ false

-- x is ready, and comes after all others that are
pub record IsLast (ranks : List Rank) (x : Rank) : Type 0 where
  pub ready : is_ready x ranks ≡ true
  pub last : (y : Rank) → is_ready y ranks ≡ true → before x y ≡ false

-- x is ready, and is the last of those that are and come before this place
pub record IsLastBefore (ranks : List Rank) (end x : Rank) : Type 0 where
  pub ready : is_ready x ranks ≡ true
  pub earlier : before x end ≡ true
  pub last : (y : Rank) → is_ready y ranks ≡ true → before y end ≡ true → before x y ≡ false

-- none of those that are ready comes before this place
abbrev pub HasNoneBefore : List Rank → Rank → Type 0
HasNoneBefore ranks end = (y : Rank) → is_ready y ranks ≡ true → before y end ≡ false

-- x is ready, and is the first of those that are and come after this place
pub record IsFirstAfter (ranks : List Rank) (mark x : Rank) : Type 0 where
  pub ready : is_ready x ranks ≡ true
  pub later : before mark x ≡ true
  pub first : (y : Rank) → is_ready y ranks ≡ true → before mark y ≡ true → before y x ≡ false

-- none of those that are ready comes after this place
abbrev pub HasNoneAfter : List Rank → Rank → Type 0
HasNoneAfter ranks mark = (y : Rank) → is_ready y ranks ≡ true → before mark y ≡ false

-- none of those that are ready comes after the one place and up to the other
abbrev pub HasNoneBetween : List Rank → (mark end : Rank) → Type 0
HasNoneBetween ranks mark end =
    (y : Rank) → is_ready y ranks ≡ true → before mark y ≡ true → before end y ≡ true

-- none comes before x
abbrev pub is_first : Rank → List Rank → Bool
is_first x ranks = not (list_any (λ y. before y x) ranks)

-- one of the class is ready
abbrev pub has_class : ℕ → List Rank → Bool
has_class class ranks = list_any (λ y. y.class == class) ranks

-- the ID of the last of the class that is ready, and 0 if none is
abbrev pub last_id : ℕ → List Rank → ℕ
last_id class [] = 0
last_id class (y ∷ ranks) =
    if y.class == class then max y.id (last_id class ranks) else last_id class ranks

-- ---- turns

-- The streams that are ready; where the round of each class is, and where it ends; where the round of all
-- is; after how many turns the next one is of the round of all, and of how many turns one is.
pub record State : Type 0 where
  pub ranks : List Rank
  pub marks : List ℕ
  pub ends : List ℕ
  pub round : Rank
  pub left : ℕ
  pub fair : ℕ

abbrev pub place : (class id : ℕ) → Rank
place class id = record { class = class; id = id }

-- Incremental streams of one urgency share the bandwidth (section 10), in rounds from the first to the
-- last, and those beyond the end of a round wait for the next one: the turn is of the first after the
-- mark that is not beyond the end; or if there is none, of the first of the class, which begins a round.
abbrev pub IsInClass : List Rank → (first : Rank) → (mark end : ℕ) → Rank → Type 0
IsInClass ranks first mark end x =
    (IsFirstAfter ranks (place first.class mark) x
    × (before (place first.class end) x ≡ false))
    ⊎ (HasNoneBetween ranks (place first.class mark) (place first.class end) × (x ≡ first))

-- The more urgent are served first, and of one urgency those that are not incremental, by their IDs
-- (section 10).
pub record IsByPriority (s : State) (x : Rank) : Type 0 where
  pub first : Rank
  pub is : IsFirst s.ranks first
  pub turn : MatchBool (is_shared first.class)
      (IsInClass s.ranks first (slice_index s.marks first.class)
      (slice_index s.ends first.class) x)
      (x ≡ first)

-- So that no stream starves (section 10), one turn of some goes round all streams, from the last to the
-- first, so that streams that come later wait for the next round.
abbrev pub IsInRound : State → Rank → Type 0
IsInRound s x =
    IsLastBefore s.ranks s.round x ⊎ (HasNoneBefore s.ranks s.round × IsLast s.ranks x)

-- it is the turn of x
abbrev pub IsNext : State → Rank → Type 0
IsNext s x = MatchBool (s.left == 1) (IsInRound s x) (IsByPriority s x)

-- ---- changes

-- Before x became ready: if none of its class was, their round is over; and if no stream was, the turns
-- until the next one of the round of all are counted anew.
abbrev pub before_join : Rank → State → State
before_join x s = record s {
  ends =
      if is_shared x.class && not (has_class x.class s.ranks) then slice_set s.ends x.class 0
      else s.ends;
  left = if length s.ranks == 0 then s.fair else s.left;
}

-- x became ready
abbrev pub Joins : Rank → (old new : State) → Type 0
Joins x old new =
    (new ≡ record (before_join x old) { ranks = new.ranks })
    × ((y : Rank) → is_ready y new.ranks ≡ (is_same x y || is_ready y old.ranks))

-- x is no longer ready
abbrev pub Leaves : Rank → (old new : State) → Type 0
Leaves x old new =
    (new ≡ record old { ranks = new.ranks })
    × ((y : Rank) → is_ready y new.ranks ≡ (not (is_same x y) && is_ready y old.ranks))

-- x became z: another place of the same stream
abbrev pub Moves : (x z : Rank) → (old new : State) → Type 0
Moves x z old new = MatchBool (is_ready x old.ranks && not (is_same x z))
    ((u : State) × Joins z old u × Leaves x u new) (new ≡ old)

-- a turn of x was taken
abbrev pub after_round : Rank → State → State
after_round x s = record s { round = x; left = s.fair }

-- A turn of the first of all that are ready begins a round of its class, which ends with the last that is
-- ready then.
abbrev pub after_class : Rank → State → State
after_class x s = record s {
  marks = if is_shared x.class then slice_set s.marks x.class x.id else s.marks;
  ends =
      if is_shared x.class && is_first x s.ranks
      then slice_set s.ends x.class (last_id x.class s.ranks)
      else s.ends;
  left = s.left - 1;
}

abbrev pub after_turn : Rank → State → State
after_turn x s = if s.left == 1 then after_round x s else after_class x s
