use Rattle.wtp_transcripts.proofs.OrderLemmas.{order_over, order_seen}
use Rattle.wtp_transcripts.proofs.laws.order_makes_no_difference.Goals as goal

pub returns-clause-seen : goal.returns-clause-seen
returns-clause-seen c = order_seen

pub returns-clause-over : goal.returns-clause-over
returns-clause-over c = order_over
