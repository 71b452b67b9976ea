use Rattle.wtp_webtransport.proofs.LossLemmas.{reset_loses, stop_loses, abandon_loses, losing_loses}
use Rattle.wtp_webtransport.proofs.laws.sessions_are_lost.Goals as goal

pub returns-clause-reset : goal.returns-clause-reset
returns-clause-reset c = reset_loses

pub returns-clause-stop : goal.returns-clause-stop
returns-clause-stop c = stop_loses

pub returns-clause-abandon : goal.returns-clause-abandon
returns-clause-abandon c = abandon_loses

pub returns-clause-failed : goal.returns-clause-failed
returns-clause-failed c = losing_loses
