use Rattle.std.proofs.Common.{length}
use Rattle.wt_c.proofs.FaultlessLemmas.{AreFaultlessLeft}
use Rattle.wt_c.proofs.settings.are_faultless.Given as goal

abbrev pub invariant-settings : goal.invariant-settings
invariant-settings l = AreFaultlessLeft l.left l.settings

abbrev pub decreases-settings : goal.decreases-settings
decreases-settings l = length l.left
