use Rattle.wtp_webtransport.proofs.EnablingLemmas.{request_rejected, request_processed, no_goaway, no_request, no_server}
use Rattle.wtp_webtransport.proofs.laws.requests_from_goaway_on_are_rejected.Goals as goal

pub returns-clause-rejected : goal.returns-clause-rejected
returns-clause-rejected c = request_rejected

pub returns-clause-processed : goal.returns-clause-processed
returns-clause-processed c = request_processed

pub returns-clause-none : goal.returns-clause-none
returns-clause-none c = no_goaway

pub returns-clause-no_request : goal.returns-clause-no_request
returns-clause-no_request c = no_request

pub returns-clause-client : goal.returns-clause-client
returns-clause-client c = no_server
