use Rattle.wtp_connection.proofs.SettingLawLemmas.{truncated, of_http2, refused}
use Rattle.wtp_connection.proofs.laws.invalid_settings_are_reported.Goals as goal

pub returns-clause-truncated : goal.returns-clause-truncated
returns-clause-truncated c = truncated

pub returns-clause-of_http2 : goal.returns-clause-of_http2
returns-clause-of_http2 c = of_http2

pub returns-clause-refused : goal.returns-clause-refused
returns-clause-refused c = refused
