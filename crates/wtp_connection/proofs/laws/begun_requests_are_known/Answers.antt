use Rattle.wtp_connection.proofs.RequestLemmas.{requests_known, few_lost, never_begun}
use Rattle.wtp_connection.proofs.laws.begun_requests_are_known.Goals as goal

pub returns-clause-known : goal.returns-clause-known
returns-clause-known c = requests_known

pub returns-clause-kept : goal.returns-clause-kept
returns-clause-kept c = few_lost

pub returns-clause-never : goal.returns-clause-never
returns-clause-never c = never_begun
