use Rattle.wtp_wire.proofs.SettingPairsLemmas.{has_pairs-items, items-has_pairs}
use Rattle.wtp_wire.proofs.laws.settings.setting_pairs_are_computed.Goals as goal

pub returns : goal.returns
returns c = record { computed = has_pairs-items; defined = items-has_pairs }
