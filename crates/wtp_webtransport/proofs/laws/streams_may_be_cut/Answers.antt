use Rattle.wtp_webtransport.proofs.RunLemmas.{run_stops, run_ends}
use Rattle.wtp_webtransport.proofs.laws.streams_may_be_cut.Goals as goal

pub returns-clause-stops : goal.returns-clause-stops
returns-clause-stops c = λ limit os fs gs z w y d s a b fin h e f g. run_stops limit os z d s a b fin h e fs gs w y f g

pub returns-clause-ends : goal.returns-clause-ends
returns-clause-ends c = λ limit os gs z y d s a b fin h e g. run_ends limit os gs z y d s a b fin h e g
