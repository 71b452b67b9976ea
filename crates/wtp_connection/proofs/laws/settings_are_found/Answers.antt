use Rattle.wtp_connection.proofs.SettingFrameLemmas.{settings_found, settings_broken}
use Rattle.wtp_connection.proofs.laws.settings_are_found.Goals as goal

pub returns-clause-values : goal.returns-clause-values
returns-clause-values c = settings_found

pub returns-clause-fault : goal.returns-clause-fault
returns-clause-fault c = settings_broken
