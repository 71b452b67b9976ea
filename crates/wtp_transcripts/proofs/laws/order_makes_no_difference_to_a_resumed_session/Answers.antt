use Rattle.wtp_transcripts.proofs.ResumedStepLemmas.{resumed_order_seen, resumed_order_over}
use Rattle.wtp_transcripts.proofs.laws.order_makes_no_difference_to_a_resumed_session.Goals as goal

pub returns-clause-seen : goal.returns-clause-seen
returns-clause-seen c = resumed_order_seen

pub returns-clause-over : goal.returns-clause-over
returns-clause-over c = resumed_order_over
