use Rattle.std.proofs.Common.{sym, ◌∙◌}
use Rattle.wtp_core.proofs.RestLemmas.{rest-same, rest-rest, rest-number}
use Rattle.wtp_wire.proofs.PastLemmas.{left-none, past_number-some}
use Rattle.wtp_wire.proofs.stream_header.StreamHeader.read.Goals as goal

pub returns-in_default-clause-rest : goal.returns-in_default-clause-rest
returns-in_default-clause-rest g c = rest-same _ _ c.in_default.ensures.none

pub returns-in-Some-parse-clause-rest : goal.returns-in-Some-parse-clause-rest
returns-in-Some-parse-clause-rest g c = rest-rest _ _ _ c.read_session.ensures.rest (rest-number _ _ _ c.in-Some.ensures.found)

pub returns-in-Some-2-clause-rest : goal.returns-in-Some-2-clause-rest
returns-in-Some-2-clause-rest g c = rest-number _ _ _ c.in-Some.ensures.found

pub returns-in-None-clause-rest : goal.returns-in-None-clause-rest
returns-in-None-clause-rest g c = rest-number _ _ _ c.in-Some.ensures.found

pub returns-in_default-clause-none : goal.returns-in_default-clause-none
returns-in_default-clause-none g c = λ e. left-none _ _ c.in_default.ensures.found c.in_default.ensures.none

pub returns-in-Some-parse-clause-none : goal.returns-in-Some-parse-clause-none
returns-in-Some-parse-clause-none g c = λ e. c.read_session.ensures.none e ∙ sym (past_number-some _ _ _ c.in-Some.ensures.found)
