-- Reading capsules from bytes that the caller holds (RFC 9297, section 3.2).
use Rattle.std.specs.Prelude.{◌≡◌, ℕ, ◌-◌, ◌<◌, ◌≤◌, ◌⊎◌, List, [], ◌∷◌, ◌++◌, length, take, drop, Result, Ok, Err}
use Rattle.wtp_wire.specs.declared.capsule.CapsuleKind.{CapsuleKind}
use Rattle.wtp_wire.specs.declared.capsule.cursor.CapsuleCursor.{CapsuleCursor}
use Rattle.wtp_wire.specs.declared.capsule.cursor.CapsuleSpan.{CapsuleSpan}
use Rattle.wtp_wire.specs.declared.capsule.cursor.CapsuleStep.{CapsuleStep}
use Rattle.wtp_wire.specs.declared.capsule.cursor.CapsuleStep.TheVariants.{Capsule, More, TooLong}
use Rattle.wtp_wire.specs.declared.capsule.reading.TruncatedCapsule.{TruncatedCapsule}
use Rattle.wtp_wire.specs.CapsuleFront.{max_value_len}
use Rattle.wtp_wire.specs.CapsuleFront.{TooLong as TooLongFront}
use Rattle.wtp_wire.specs.CapsuleStream.{Capsules, CapsuleEnding, Between, Within, AtTooLong, Joins, MissesValue, TakesCapsule, capsules_held, ends, follows, next_held}
use Rattle.wtp_wire.specs.FrameNeed.{frame_need}
use Rattle.wtp_wire.specs.Held.{Held}

-- what a cursor holds: no bytes, and in their place the bytes of an unknown capsule's value that
-- are still to be skipped
abbrev pub held_by : CapsuleCursor → Held
held_by c = record { taken = []; skip_remaining = c.skip_remaining }

-- the capsules of the bytes from a cursor on, and their ending
abbrev pub capsules_from : CapsuleCursor → List ℕ → Capsules
capsules_from c bytes = capsules_held (held_by c) bytes

-- ---- a capsule

-- the value at a place
abbrev pub capsule_value : CapsuleSpan → List ℕ → List ℕ
capsule_value p bytes = take (p.end - p.start) (drop p.start bytes)

-- The capsule at this place is the first one of a known kind, whatever follows. It ends where the
-- place does, and nothing is to be skipped after it.
pub record TakesPlace (p : CapsuleSpan) (old : CapsuleCursor) (bytes : List ℕ)
    (new : CapsuleCursor) : Type 0 where
  pub within : p.end ≤ length bytes
  pub small : p.end - p.start ≤ max_value_len p.kind
  pub taken :
      TakesCapsule (p.kind, capsule_value p bytes)
      (held_by old) bytes (held_by new) (drop p.end bytes)

-- ---- more bytes

-- the start of a capsule, of which the type or the length is not complete; or a known type, a
-- length that is not too long, and fewer bytes of a value
abbrev pub IsCapsulePart : List ℕ → Type 0
IsCapsulePart s = (length s < frame_need s) ⊎ MissesValue s

-- These bytes are left over: the start of a capsule, or none if bytes are still to be skipped.
pub record IsLeftOver (c : CapsuleCursor) (rest : List ℕ) : Type 0 where
  pub part : IsCapsulePart rest
  pub none : 0 < c.skip_remaining → rest ≡ []

-- The bytes after the first n are left over, which are few. Whatever follows, the first capsule is
-- the same.
pub record WantsMore (n : ℕ) (old : CapsuleCursor) (bytes : List ℕ) (new : CapsuleCursor) : Type 0
  where
    pub within : n ≤ length bytes
    pub left : IsLeftOver new (drop n bytes)
    pub few : length (drop n bytes) ≤ 1043
    pub joins : Joins (held_by old) bytes (held_by new) (drop n bytes)

-- ---- a value that is too long

-- it is that of the first capsule of a known kind, whatever follows
pub record FindsLong (old : CapsuleCursor) (bytes : List ℕ) (new : CapsuleCursor) : Type 0 where
  pub rest : List ℕ
  pub found :
      (more : List ℕ) → next_held (held_by old) (bytes ++ more) ≡ TooLongFront (rest ++ more)
  pub same : new ≡ old

-- ---- one call

abbrev pub StepIs : CapsuleStep → CapsuleCursor → List ℕ → CapsuleCursor → Type 0
StepIs (Capsule p) old bytes new = TakesPlace p old bytes new
StepIs (More n) old bytes new = WantsMore n old bytes new
StepIs TooLong old bytes new = FindsLong old bytes new

-- the bytes that are left
abbrev pub left_after : CapsuleStep → List ℕ → List ℕ
left_after (Capsule p) bytes = drop p.end bytes
left_after (More n) bytes = drop n bytes
left_after TooLong bytes = bytes

-- the capsules before the call, from those after it
abbrev pub with_step : CapsuleStep → List ℕ → Capsules → Capsules
with_step (Capsule p) bytes all = follows (p.kind, capsule_value p bytes) all
with_step (More n) bytes all = all
with_step TooLong bytes all = ends AtTooLong

-- whatever follows these bytes, the capsules of all are made so from those of the bytes that are
-- left
abbrev pub CapsulesGoOn : CapsuleStep → CapsuleCursor → List ℕ → CapsuleCursor → Type 0
CapsulesGoOn step old bytes new =
    (more : List ℕ)
    → capsules_from old (bytes ++ more)
    ≡ with_step step bytes (capsules_from new (left_after step bytes ++ more))

-- ---- data that arrives piece by piece

-- what happens at a cursor: a piece of data arrives, after the bytes that are left, or a call
-- returns
pub data CursorEvent : Type 0 where
  Came : List ℕ → CursorEvent
  Stepped : CapsuleStep → CursorEvent

-- These events lead from a cursor and the bytes left to those after them.
abbrev pub LeadsTo :
    List CursorEvent → CapsuleCursor → List ℕ → CapsuleCursor → List ℕ → Type 0
LeadsTo [] old bytes new rest = (new ≡ old) × (rest ≡ bytes)
LeadsTo (Came piece ∷ events) old bytes new rest = LeadsTo events old (bytes ++ piece) new rest
LeadsTo (Stepped step ∷ events) old bytes new rest =
    (next : CapsuleCursor)
    × StepIs step old bytes next
    × LeadsTo events next (left_after step bytes) new rest

-- all data that came, joined
abbrev pub data_in : List CursorEvent → List ℕ
data_in [] = []
data_in (Came piece ∷ events) = piece ++ data_in events
data_in (Stepped step ∷ events) = data_in events

abbrev pub add_found :
    CapsuleStep → List ℕ → List (CapsuleKind × List ℕ) → List (CapsuleKind × List ℕ)
add_found (Capsule p) bytes others = (p.kind, capsule_value p bytes) ∷ others
add_found (More n) bytes others = others
add_found TooLong bytes others = others

-- all capsules that were found, where these bytes were left before
abbrev pub found_in : List CursorEvent → List ℕ → List (CapsuleKind × List ℕ)
found_in [] bytes = []
found_in (Came piece ∷ events) bytes = found_in events (bytes ++ piece)
found_in (Stepped step ∷ events) bytes =
    add_found step bytes (found_in events (left_after step bytes))

-- ---- the end of the data

-- the ending of the capsules where the data ends so
abbrev pub ending_of : Result (Unit {0}) TruncatedCapsule → CapsuleEnding
ending_of (Ok u) = Between
ending_of (Err e) = Within
