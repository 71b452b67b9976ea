use Rattle.wtp_webtransport.proofs.AcknowledgmentLemmas.{other_kept, own_taken}
use Rattle.wtp_webtransport.proofs.laws.cancellations_keep_other_acknowledgments.Goals as goal

pub returns-clause-other : goal.returns-clause-other
returns-clause-other c = other_kept

pub returns-clause-own : goal.returns-clause-own
returns-clause-own c = own_taken
