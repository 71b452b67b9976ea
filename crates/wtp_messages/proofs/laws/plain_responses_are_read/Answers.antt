use Rattle.wtp_messages.proofs.PlainLemmas.{response_read, response_with_length}
use Rattle.wtp_messages.proofs.FieldLemmas.{trailers_hold}
use Rattle.wtp_messages.proofs.laws.plain_responses_are_read.Goals as goal

pub returns-clause-response : goal.returns-clause-response
returns-clause-response c = response_read

pub returns-clause-trailers : goal.returns-clause-trailers
returns-clause-trailers c = trailers_hold

pub returns-clause-with_length : goal.returns-clause-with_length
returns-clause-with_length c = response_with_length
