use Rattle.wtp_connection.proofs.InterimLemmas.{finds_interim, finds_too_many}
use Rattle.wtp_connection.proofs.laws.interim_responses_are_found.Goals as goal

pub returns-clause-found : goal.returns-clause-found
returns-clause-found c = finds_interim

pub returns-clause-bound : goal.returns-clause-bound
returns-clause-bound c = finds_too_many
