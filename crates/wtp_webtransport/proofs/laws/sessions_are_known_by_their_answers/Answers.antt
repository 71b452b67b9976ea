use Rattle.wtp_webtransport.proofs.EnablingLemmas.{open_by_answer, refused_session, known_as_other, known_as_member, open_alone}
use Rattle.wtp_webtransport.proofs.laws.sessions_are_known_by_their_answers.Goals as goal

pub returns-clause-accepted : goal.returns-clause-accepted
returns-clause-accepted c = open_by_answer

pub returns-clause-refused : goal.returns-clause-refused
returns-clause-refused c = refused_session

pub returns-clause-other : goal.returns-clause-other
returns-clause-other c = known_as_other

pub returns-clause-member : goal.returns-clause-member
returns-clause-member c = known_as_member

pub returns-clause-open_alone : goal.returns-clause-open_alone
returns-clause-open_alone c = open_alone
