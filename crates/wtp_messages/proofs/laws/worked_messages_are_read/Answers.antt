use Rattle.wtp_messages.proofs.PlainLemmas as plain
use Rattle.wtp_messages.proofs.laws.worked_messages_are_read.Goals as goal

pub returns-clause-request : goal.returns-clause-request
returns-clause-request c = plain.worked_request

pub returns-clause-session : goal.returns-clause-session
returns-clause-session c = plain.worked_session

pub returns-clause-tunnel : goal.returns-clause-tunnel
returns-clause-tunnel c = plain.worked_tunnel

pub returns-clause-response : goal.returns-clause-response
returns-clause-response c = plain.worked_response
