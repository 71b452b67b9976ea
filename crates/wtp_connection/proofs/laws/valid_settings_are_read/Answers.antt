use Rattle.wtp_connection.proofs.SettingLawLemmas.{valid_read}
use Rattle.wtp_connection.proofs.laws.valid_settings_are_read.Goals as goal

pub returns : goal.returns
returns c = valid_read
