use Rattle.std.proofs.Common.{drop}
use Rattle.wt_c.specs.Settings.{AreNumbers}
use Rattle.wt_c.proofs.TextLemmas.{AreLeft}
use Rattle.wt_c.proofs.settings.are_numbers.Given as goal

abbrev pub invariant-loop-setting : goal.invariant-loop-setting
invariant-loop-setting l = AreLeft AreNumbers (drop l.setting-index l.settings) l.settings
