use Rattle.std.proofs.Common.{drop}
use Rattle.wt_c.proofs.FaultlessLemmas.{HasIdLeft}
use Rattle.wt_c.proofs.settings.contains_id.Given as goal

abbrev pub invariant-loop-setting : goal.invariant-loop-setting
invariant-loop-setting l = HasIdLeft l.id (drop l.setting-index l.settings) l.settings
