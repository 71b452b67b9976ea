use Rattle.wtp_connection.proofs.KnownLemmas.{over_after_request, known_exactly}
use Rattle.wtp_connection.proofs.laws.sessions_without_a_stream_are_known.Goals as goal

pub returns-clause-over : goal.returns-clause-over
returns-clause-over c = over_after_request

pub returns-clause-known : goal.returns-clause-known
returns-clause-known c = known_exactly
