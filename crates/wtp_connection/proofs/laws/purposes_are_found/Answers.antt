use Rattle.wtp_connection.proofs.PurposeLemmas.{uni_session, bi_session, request, unknown_type}
use Rattle.wtp_connection.proofs.laws.purposes_are_found.Goals as goal

pub returns-clause-session : goal.returns-clause-session
returns-clause-session c = uni_session

pub returns-clause-bidirectional : goal.returns-clause-bidirectional
returns-clause-bidirectional c = bi_session

pub returns-clause-request : goal.returns-clause-request
returns-clause-request c = request

pub returns-clause-unknown : goal.returns-clause-unknown
returns-clause-unknown c = unknown_type
