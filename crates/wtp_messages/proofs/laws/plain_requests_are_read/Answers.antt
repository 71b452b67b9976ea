use Rattle.wtp_messages.proofs.PlainLemmas.{request_read, session_read, tunnel_read, request_with_length}
use Rattle.wtp_messages.proofs.laws.plain_requests_are_read.Goals as goal

pub returns-clause-request : goal.returns-clause-request
returns-clause-request c = request_read

pub returns-clause-session : goal.returns-clause-session
returns-clause-session c = session_read

pub returns-clause-tunnel : goal.returns-clause-tunnel
returns-clause-tunnel c = tunnel_read

pub returns-clause-with_length : goal.returns-clause-with_length
returns-clause-with_length c = request_with_length
