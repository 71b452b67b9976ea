use Rattle.std.proofs.Common.{◌≤◌, length}
use Rattle.wt_inspection.proofs.WalkLemmas.{SoFar}
use Rattle.wt_inspection.proofs.capsules.CapsuleWalk.add.Given as goal

abbrev pub invariant-steps : goal.invariant-steps
invariant-steps l = SoFar l.fn.self l.at l.self l.piece l.items.items l.rest × (length l.rest ≤ length l.piece)

abbrev pub decreases-steps : goal.decreases-steps
decreases-steps l = length l.rest
