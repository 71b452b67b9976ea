use Rattle.wtp_webtransport.proofs.ErrorLemmas.{instructions_marked, errors_marked, rests}
use Rattle.wtp_webtransport.proofs.LossLemmas.{reset_marks, stop_marks, abandon_marks, join_marks, overflow_marks, reject_marks, quiet}
use Rattle.wtp_webtransport.proofs.laws.errors_are_last.Goals as goal

pub returns-clause-instructions : goal.returns-clause-instructions
returns-clause-instructions c = instructions_marked

pub returns-clause-receive : goal.returns-clause-receive
returns-clause-receive c = errors_marked

pub returns-clause-reset : goal.returns-clause-reset
returns-clause-reset c = reset_marks

pub returns-clause-stop : goal.returns-clause-stop
returns-clause-stop c = stop_marks

pub returns-clause-abandon : goal.returns-clause-abandon
returns-clause-abandon c = abandon_marks

pub returns-clause-join : goal.returns-clause-join
returns-clause-join c = join_marks

pub returns-clause-overflow : goal.returns-clause-overflow
returns-clause-overflow c = overflow_marks

pub returns-clause-reject : goal.returns-clause-reject
returns-clause-reject c = reject_marks

pub returns-clause-consumed : goal.returns-clause-consumed
returns-clause-consumed c = rests

pub returns-clause-quiet : goal.returns-clause-quiet
returns-clause-quiet c = quiet
