use Rattle.wtp_webtransport.proofs.CutLemmas.{places_are_proper}
use Rattle.wtp_webtransport.proofs.SaidLemmas.{content_cut}
use Rattle.wtp_webtransport.proofs.laws.content_of_sessions_may_be_cut.Goals as goal

pub returns-clause-capsules : goal.returns-clause-capsules
returns-clause-capsules c = content_cut

pub returns-clause-places : goal.returns-clause-places
returns-clause-places c = places_are_proper
