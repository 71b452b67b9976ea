use Rattle.wtp_webtransport.proofs.LossLemmas.{answer_waits}
use Rattle.wtp_webtransport.proofs.CallLemmas.{early_of}
use Rattle.wtp_webtransport.proofs.laws.waits_change_nothing.Goals as goal

pub returns-clause-answer : goal.returns-clause-answer
returns-clause-answer c = answer_waits

pub returns-clause-early : goal.returns-clause-early
returns-clause-early c = early_of
