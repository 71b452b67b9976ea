use Rattle.wtp_webtransport.proofs.EnablingLemmas.{sessions_allowed, sessions_need, none_before_settings}
use Rattle.wtp_webtransport.proofs.laws.sessions_need_settings_of_both_ends.Goals as goal

pub returns-clause-allowed : goal.returns-clause-allowed
returns-clause-allowed c = sessions_allowed

pub returns-clause-needed : goal.returns-clause-needed
returns-clause-needed c = sessions_need

pub returns-clause-early : goal.returns-clause-early
returns-clause-early c = none_before_settings
