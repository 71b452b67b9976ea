-- What the reading of a message remembers, and what the bytes of a capsule lead to.
use Rattle.std.specs.Prelude.{◌≡◌, ◌≢◌, ℕ, ◌+◌, ◌<◌, ◌≤◌, List, [], ◌∷◌, ◌++◌, length, Option, Some, true}
use Rattle.std.specs.Prelude.{None, Ok, Err}
use Rattle.wtp_core.specs.declared.error.ErrorCode.TheVariants.{Datagram}
use Rattle.wtp_wire.specs.declared.capsule.CapsuleKind.{CapsuleKind}
use Rattle.wtp_wire.specs.declared.capsule.cursor.UnknownCapsule.{UnknownCapsule}
use Rattle.wtp_wire.specs.declared.capsule.CapsuleKind.TheVariants.{CloseWebTransportSession}
use Rattle.wtp_wire.specs.AnyCapsule.{missing_from}
use Rattle.wtp_wire.specs.CapsuleCursor.{IsCapsulePart}
use Rattle.wtp_wire.specs.CapsuleFront.{capsule_front}
use Rattle.wtp_wire.specs.Capsule.{capsule_kind_of}
use Rattle.wtp_wire.specs.CloseSession.{close_in}
use Rattle.wt_inspection.specs.DataCapsules.{Stage, Opening, Plain, Session, HasText, StartsCapsule}
use Rattle.wt_inspection.specs.DataCapsules.{StartsCapsules, EndsWith}
use Rattle.wtp_wire.specs.Settings.{pair_at}
use Rattle.wt_inspection.specs.FlowLimits.{has_limit}
use Rattle.wt_inspection.specs.Recording.{Then}
use Rattle.wt_inspection.specs.declared.capsules.CapsuleWalk.{CapsuleWalk}
use Rattle.wt_inspection.specs.declared.capsules.CloseOutcome.{CloseOutcome}
use Rattle.wt_inspection.specs.declared.capsules.CloseOutcome.TheVariants as closing-is
use Rattle.wt_inspection.specs.declared.capsules.CapsuleBatch.{CapsuleBatch}
use Rattle.wt_inspection.specs.declared.capsules.WalkStep.{WalkStep}
use Rattle.wt_inspection.specs.declared.capsules.WalkStep.TheVariants as step-is
use Rattle.wt_inspection_model.specs.declared.item.capsule.CapsuleItem.{CapsuleItem}
use Rattle.wt_inspection_model.specs.declared.item.ending.Fault.{Fault}
use Rattle.wt_inspection.specs.declared.reading.Phase.{Phase}
use Rattle.wt_inspection.specs.declared.reading.Phase.TheVariants as phase-is

-- ---- what is held

-- of this capsule of an unknown type the type and the length came, and its value but for n bytes,
-- which is kept if it has a limit
abbrev pub LacksOf : UnknownCapsule → List ℕ → ℕ → List ℕ → Type 0
LacksOf u kept n came =
    (capsule_kind_of u.number ≡ None)
    × ((value : List ℕ) × (pair_at came ≡ Some ((u.number, u.announced), value))
    × (length value + n ≡ u.announced) × (has_limit u.number ≡ true → kept ≡ value))

-- these bytes of a capsule came: the start of one, all of which is held; or one whose value is
-- skipped, of which nothing else is held
abbrev pub HoldsOf : Option UnknownCapsule → List ℕ → ℕ → List ℕ → List ℕ → Type 0
HoldsOf None kept skip_remaining held came =
    (skip_remaining ≡ 0) × (held ≡ came) × IsCapsulePart came
HoldsOf (Some u) kept skip_remaining held came =
    (0 < skip_remaining) × (held ≡ []) × LacksOf u kept skip_remaining came

-- what is held is short, however long the capsule is
abbrev pub Holds : CapsuleWalk → List ℕ → Type 0
Holds walk came =
    HoldsOf walk.unknown walk.value.items walk.cursor.skip_remaining walk.held.items came
    × (length walk.held.items ≤ 1043)

-- the same, where the first of these bytes is at this place
abbrev pub HoldsAt : CapsuleWalk → List ℕ → ℕ → Type 0
HoldsAt walk came start = Holds walk came × (came ≢ [] → walk.at ≡ start)

-- ---- one step

-- a step takes no more bytes than are missing
abbrev pub Fits : CapsuleWalk → ℕ → Type 0
Fits walk n =
    0 < missing_from walk.cursor walk.held.items → n ≤ missing_from walk.cursor walk.held.items

-- the bytes are this capsule, whatever follows
abbrev pub IsWhole : List ℕ → CapsuleItem → Type 0
IsWhole bytes item = (more : List ℕ) → StartsCapsule (bytes ++ more) item more

-- the first capsule of the bytes has a fault, whatever follows
abbrev pub IsBad : List ℕ → Fault → Type 0
IsBad bytes fault = (more : List ℕ) → EndsWith (capsule_front (bytes ++ more)) (Some fault.code)

-- where a capsule begins, of which these bytes came before, and whose next byte is at a place
abbrev pub begins_at : List ℕ → ℕ → ℕ → ℕ
begins_at [] start place = place
begins_at (b ∷ came) start place = start

-- the fault of a capsule that begins there, which is complete or too long
abbrev pub IsFaultOf : ℕ → Fault → Type 0
IsFaultOf start fault = (fault.at ≡ start) × (fault.missing ≡ 0)

-- what these bytes of a capsule that begins there lead to
abbrev pub Stepped : ℕ → WalkStep → CapsuleWalk → List ℕ → Type 0
Stepped start step-is.More walk bytes = Holds walk bytes × (walk.at ≡ start)
Stepped start (step-is.Done item) walk bytes =
    IsWhole bytes item × Holds walk [] × (item.at ≡ start)
Stepped start (step-is.Fault fault) walk bytes = IsBad bytes fault × IsFaultOf start fault

-- what a complete capsule that closes its session is
abbrev pub JudgesClose : Option (ℕ × List ℕ) → CloseOutcome → Type 0
JudgesClose found closing-is.Other = ⊥
JudgesClose found (closing-is.Close reason) = HasText found (Some reason)
JudgesClose found (closing-is.Bad code) = (found ≡ None) × (code ≡ Datagram)

-- what a complete capsule of this kind with this value is
abbrev pub JudgesBy : CapsuleKind → List ℕ → CloseOutcome → Type 0
JudgesBy CloseWebTransportSession value closing = JudgesClose (close_in value) closing

-- the same of a capsule that may be of another type
abbrev pub Judges : Option (CapsuleKind × List ℕ) → CloseOutcome → Type 0
Judges (Some capsule) closing = JudgesBy capsule.0 capsule.1 closing
Judges None closing = closing ≡ closing-is.Other

-- ---- a piece of data

-- what is held, or the fault, begins there
abbrev pub Rests : ℕ → Option Fault → CapsuleWalk → List ℕ → Type 0
Rests start None walk rest = HoldsAt walk rest start
Rests start (Some fault) walk rest =
    EndsWith (capsule_front rest) (Some fault.code) × IsFaultOf start fault

-- the capsules of all bytes that came, and what is held of the rest
abbrev pub TakesPiece : (ℕ → ℕ) → CapsuleWalk → List ℕ → CapsuleBatch → Type 0
TakesPiece place walk all taken =
    (rest : List ℕ)
    × StartsCapsules place all taken.items.items rest
    × Rests (place (length rest)) taken.fault walk rest

-- ---- a message

abbrev pub IsStage : Phase → Stage → Type 0
IsStage phase-is.Opening stage = stage ≡ Opening
IsStage phase-is.Plain stage = stage ≡ Plain
IsStage (phase-is.Session walk) (Session held start) = HoldsAt walk held start
IsStage (phase-is.Session walk) other = ⊥

-- after the end of the reading it does not matter
abbrev pub IsStageAt : Then → Phase → Stage → Type 0
IsStageAt (Ok next) phase stage = IsStage phase stage
IsStageAt (Err end) phase stage = Unit {0}

-- a message goes so far
abbrev pub Leads : Phase → Phase → (Stage → Stage → Type 0) → Then → Type 0
Leads old new moves after =
    (stage : Stage) → IsStage old stage → (next : Stage) × moves stage next × IsStageAt after new next

abbrev pub LeadsAt : Then → Phase → Phase → (Stage → Stage → Type 0) → Then → Type 0
LeadsAt before old new moves after =
    (stage : Stage) → IsStageAt before old stage
    → (next : Stage) × moves stage next × IsStageAt after new next
