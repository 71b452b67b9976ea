-- What a capsule that closes its session has.
use Rattle.std.proofs.Common.{◌≡◌, ℕ, List, Option, Some, None, Ok, refl}
use Rattle.wtp_wire.specs.Capsule.{capsule_in}
use Rattle.wtp_wire.specs.CloseSession.{close_in}
use Rattle.wtp_core.specs.declared.error.ErrorCode.{ErrorCode}
use Rattle.wtp_wire.specs.declared.capsule.CapsuleKind.{CapsuleKind}
use Rattle.wtp_wire.specs.declared.capsule.CapsuleKind.TheVariants.{CloseWebTransportSession}
use Rattle.wt_inspection.specs.declared.capsules.CloseOutcome.{CloseOutcome}
use Rattle.wt_inspection.specs.declared.capsules.CloseOutcome.TheVariants as closing-is
use Rattle.wt_inspection_model.specs.declared.item.capsule.CloseReason.{CloseReason}
use Rattle.wt_inspection.specs.declared.reading.Next.TheVariants as next-is
use Rattle.wt_inspection.specs.Recording.{Then, Closes, StopsWith}
use Rattle.wt_inspection.specs.Recording.{IsClosing}
use Rattle.wt_inspection.specs.Walks.{JudgesBy, JudgesClose, Judges}

-- ---- what a capsule says

pub judges_none : (bytes : List ℕ) → capsule_in bytes ≡ None → Judges (capsule_in bytes) closing-is.Other
judges_none bytes e = rw e refl

pub judges_some : (bytes : List ℕ) (capsule : CapsuleKind × List ℕ) (closing : CloseOutcome) → capsule_in bytes ≡ Some capsule → JudgesBy capsule.0 capsule.1 closing → Judges (capsule_in bytes) closing
judges_some bytes capsule closing e is = rw e is

-- ---- what follows it

none_closes : (place : ℕ) (o : Option (CapsuleKind × List ℕ)) → Judges o closing-is.Other → Closes place o None (Ok next-is.Capsules)
none_closes place None h = (refl, refl)
none_closes place (Some (CloseWebTransportSession, value)) h = absurd h

pub closes_other : (place : ℕ) (bytes : List ℕ) → Judges (capsule_in bytes) closing-is.Other → Closes place (capsule_in bytes) None (Ok next-is.Capsules)
closes_other place bytes h = none_closes place (capsule_in bytes) h

one_closes : (place : ℕ) (o : Option (ℕ × List ℕ)) (found : CloseReason) → JudgesClose o (closing-is.Close found) → IsClosing place o (Some found) (Ok next-is.Capsules)
one_closes place (Some close) found (code, reason) = (code, reason, refl)
one_closes place None found h = absurd h

good_closes : (place : ℕ) (o : Option (CapsuleKind × List ℕ)) (found : CloseReason) → Judges o (closing-is.Close found) → Closes place o (Some found) (Ok next-is.Capsules)
good_closes place None found h = absurd (cc h)
good_closes place (Some (CloseWebTransportSession, value)) found h = one_closes place (close_in value) found h

pub closes_close : (place : ℕ) (bytes : List ℕ) (found : CloseReason) → Judges (capsule_in bytes) (closing-is.Close found) → Closes place (capsule_in bytes) (Some found) (Ok next-is.Capsules)
closes_close place bytes found h = good_closes place (capsule_in bytes) found h

no_closes : (place : ℕ) (o : Option (ℕ × List ℕ)) (code : ErrorCode) (after : Then) → JudgesClose o (closing-is.Bad code) → StopsWith place code after → IsClosing place o None after
no_closes place o code after (none, same) stops = rw none (refl, rw same at stops)

bad_closes : (place : ℕ) (o : Option (CapsuleKind × List ℕ)) (code : ErrorCode) (after : Then) → Judges o (closing-is.Bad code) → StopsWith place code after → Closes place o None after
bad_closes place None code after h stops = absurd (cc h)
bad_closes place (Some (CloseWebTransportSession, value)) code after h stops = no_closes place (close_in value) code after h stops

pub closes_bad : (place : ℕ) (bytes : List ℕ) (code : ErrorCode) (after : Then) → Judges (capsule_in bytes) (closing-is.Bad code) → StopsWith place code after → Closes place (capsule_in bytes) None after
closes_bad place bytes code after h stops = bad_closes place (capsule_in bytes) code after h stops
