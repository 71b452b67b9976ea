use Rattle.std.proofs.Common.{length}
use Rattle.wt_inspection.proofs.capsules.reads_as_capsules.Given as goal

abbrev pub decreases-capsules : goal.decreases-capsules
decreases-capsules l = length l.rest
