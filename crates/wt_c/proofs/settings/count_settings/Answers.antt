use Rattle.wt_c.proofs.SettingLemmas.{counting}
use Rattle.wt_c.proofs.settings.count_settings.Goals as goal

pub pairs-init : goal.pairs-init
pairs-init c = counting _ c.args.payload.now c.new-left.ensures
