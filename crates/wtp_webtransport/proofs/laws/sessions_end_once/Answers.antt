use Rattle.wtp_webtransport.proofs.EndingLemmas.{sessions_kept}
use Rattle.wtp_webtransport.proofs.HalfLemmas.{reset_keeps, stop_keeps, abandon_keeps, join_keeps, overflow_keeps, reject_keeps, answer_keeps}
use Rattle.wtp_webtransport.proofs.laws.sessions_end_once.Goals as goal

pub returns-clause-receive : goal.returns-clause-receive
returns-clause-receive c = sessions_kept

pub returns-clause-reset : goal.returns-clause-reset
returns-clause-reset c = reset_keeps

pub returns-clause-stop : goal.returns-clause-stop
returns-clause-stop c = stop_keeps

pub returns-clause-abandon : goal.returns-clause-abandon
returns-clause-abandon c = abandon_keeps

pub returns-clause-join : goal.returns-clause-join
returns-clause-join c = join_keeps

pub returns-clause-overflow : goal.returns-clause-overflow
returns-clause-overflow c = overflow_keeps

pub returns-clause-answer : goal.returns-clause-answer
returns-clause-answer c = answer_keeps

pub returns-clause-reject : goal.returns-clause-reject
returns-clause-reject c = reject_keeps
