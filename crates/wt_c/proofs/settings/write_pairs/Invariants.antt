use Rattle.std.proofs.Common.{drop}
use Rattle.wt_c.proofs.SettingLemmas.{IsWriting}
use Rattle.wt_c.proofs.settings.write_pairs.Given as goal

abbrev pub invariant-loop-setting : goal.invariant-loop-setting
invariant-loop-setting l = IsWriting l.payload.items (drop l.setting-index l.settings) l.settings
