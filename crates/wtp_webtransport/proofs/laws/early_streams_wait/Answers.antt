use Rattle.wtp_webtransport.proofs.LossLemmas.{known_over, over_known, new_known, head_known, asked_known}
use Rattle.wtp_webtransport.proofs.PastLemmas.{past_kept, reset_past, stop_past, abandon_past, join_past, overflow_past, reject_past, answer_past}
use Rattle.wtp_webtransport.proofs.laws.early_streams_wait.Goals as goal

pub returns-clause-over : goal.returns-clause-over
returns-clause-over c = known_over

pub returns-clause-past : goal.returns-clause-past
returns-clause-past c = over_known

pub returns-clause-new : goal.returns-clause-new
returns-clause-new c = new_known

pub returns-clause-begun : goal.returns-clause-begun
returns-clause-begun c = head_known

pub returns-clause-asked : goal.returns-clause-asked
returns-clause-asked c = asked_known

pub returns-clause-had : goal.returns-clause-had
returns-clause-had c = past_kept

pub returns-clause-reset : goal.returns-clause-reset
returns-clause-reset c = reset_past

pub returns-clause-stop : goal.returns-clause-stop
returns-clause-stop c = stop_past

pub returns-clause-abandon : goal.returns-clause-abandon
returns-clause-abandon c = abandon_past

pub returns-clause-join : goal.returns-clause-join
returns-clause-join c = join_past

pub returns-clause-overflow : goal.returns-clause-overflow
returns-clause-overflow c = overflow_past

pub returns-clause-reject : goal.returns-clause-reject
returns-clause-reject c = reject_past

pub returns-clause-answer : goal.returns-clause-answer
returns-clause-answer c = answer_past
