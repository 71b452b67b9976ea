use Rattle.wtp_wire.proofs.SettingPairsLemmas.{settings-has_pairs, fault-has_pairs, has_pairs-settings, has_pairs-fault}
use Rattle.wtp_wire.proofs.laws.settings.settings_are_among_the_pairs.Goals as goal

pub returns : goal.returns
returns c = record { settings = settings-has_pairs; fault = fault-has_pairs; same_settings = has_pairs-settings; same_fault = has_pairs-fault }
