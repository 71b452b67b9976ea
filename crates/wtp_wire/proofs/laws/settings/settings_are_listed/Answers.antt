use Rattle.wtp_wire.proofs.SettingsListLemmas.{settings-listed}
use Rattle.wtp_wire.proofs.laws.settings.settings_are_listed.Goals as goal

pub returns : goal.returns
returns c = settings-listed
