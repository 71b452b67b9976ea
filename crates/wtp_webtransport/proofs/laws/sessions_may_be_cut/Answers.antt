use Rattle.wtp_webtransport.proofs.SaidRunLemmas.{call_told, call_stays, session_stops, session_alike, session_ends}
use Rattle.wtp_webtransport.proofs.laws.sessions_may_be_cut.Goals as goal

pub returns-clause-call : goal.returns-clause-call
returns-clause-call c = call_told

pub returns-clause-stays : goal.returns-clause-stays
returns-clause-stays c = call_stays

pub returns-clause-stops : goal.returns-clause-stops
returns-clause-stops c = session_stops

pub returns-clause-alike : goal.returns-clause-alike
returns-clause-alike c = session_alike

pub returns-clause-ends : goal.returns-clause-ends
returns-clause-ends c = session_ends
