use Rattle.std.proofs.Common.{length}
use Rattle.wt_c.proofs.SettingLemmas.{IsCounting}
use Rattle.wt_c.proofs.settings.count_settings.Given as goal

abbrev pub invariant-pairs : goal.invariant-pairs
invariant-pairs l = IsCounting l.n l.left l.payload

abbrev pub decreases-pairs : goal.decreases-pairs
decreases-pairs l = length l.left
