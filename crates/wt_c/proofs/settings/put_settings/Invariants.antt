use Rattle.std.proofs.Common.{length}
use Rattle.wtp_wire.specs.SettingPairs.{setting_items}
use Rattle.wt_c.proofs.SettingLemmas.{IsPutting}
use Rattle.wt_c.proofs.settings.put_settings.Given as goal

abbrev pub invariant-settings : goal.invariant-settings
invariant-settings l = IsPutting l.fn.settings l.settings l.n l.left (setting_items l.payload) l.count

abbrev pub decreases-settings : goal.decreases-settings
decreases-settings l = length l.left
