use Rattle.wtp_webtransport.proofs.EnablingLemmas.{session_asked, asked_session, asked_early, asked_other, asked_disabled, asked_in_vain, asked_plain}
use Rattle.wtp_webtransport.proofs.laws.extended_connect_asks_for_sessions.Goals as goal

pub returns-clause-session : goal.returns-clause-session
returns-clause-session c = session_asked

pub returns-clause-needed : goal.returns-clause-needed
returns-clause-needed c = asked_session

pub returns-clause-early : goal.returns-clause-early
returns-clause-early c = asked_early

pub returns-clause-other : goal.returns-clause-other
returns-clause-other c = asked_other

pub returns-clause-disabled : goal.returns-clause-disabled
returns-clause-disabled c = asked_disabled

pub returns-clause-in_vain : goal.returns-clause-in_vain
returns-clause-in_vain c = asked_in_vain

pub returns-clause-plain : goal.returns-clause-plain
returns-clause-plain c = asked_plain
