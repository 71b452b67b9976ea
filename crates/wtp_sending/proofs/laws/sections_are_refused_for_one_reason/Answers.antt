use Rattle.wtp_sending.proofs.RefusedLemmas as refused
use Rattle.wtp_sending.proofs.laws.sections_are_refused_for_one_reason.Goals as goal

pub returns-clause-head : goal.returns-clause-head
returns-clause-head c = refused.head_once

pub returns-clause-sent_head : goal.returns-clause-sent_head
returns-clause-sent_head c = refused.sent_head

pub returns-clause-trailers : goal.returns-clause-trailers
returns-clause-trailers c = refused.trailers_once

pub returns-clause-sent_trailers : goal.returns-clause-sent_trailers
returns-clause-sent_trailers c = refused.sent_trailers
