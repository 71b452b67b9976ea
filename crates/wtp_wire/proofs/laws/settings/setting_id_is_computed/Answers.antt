use Rattle.wtp_wire.proofs.SettingIdLemmas.{setting_id_of-is, is-setting_id_of}
use Rattle.wtp_wire.proofs.laws.settings.setting_id_is_computed.Goals as goal

pub returns : goal.returns
returns c = record { computed = setting_id_of-is; defined = is-setting_id_of }
