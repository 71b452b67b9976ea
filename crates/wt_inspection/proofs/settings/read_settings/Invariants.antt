use Rattle.std.proofs.Common.{length}
use Rattle.wt_inspection.proofs.FlagLemmas.{SoFar}
use Rattle.wt_inspection.proofs.settings.read_settings.Given as goal

abbrev pub invariant-settings : goal.invariant-settings
invariant-settings l = SoFar l.bytes l.lines.items l.rest l.seen

abbrev pub decreases-settings : goal.decreases-settings
decreases-settings l = length l.rest
