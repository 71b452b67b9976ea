use Rattle.wtp_wire.proofs.SettingPairsLemmas.{pairs_judged}
use Rattle.wtp_wire.proofs.laws.settings.one_list_of_pairs.Goals as goal

pub returns : goal.returns
returns c = pairs_judged
