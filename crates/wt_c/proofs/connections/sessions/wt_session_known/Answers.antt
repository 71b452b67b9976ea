use Rattle.wt_c.proofs.BlankLemmas.{known_found}
use Rattle.wt_c.proofs.connections.sessions.wt_session_known.Goals as goal

pub returns-in-Some-blank-clause-known : goal.returns-in-Some-blank-clause-known
returns-in-Some-blank-clause-known c = λ _. (
  c.in-Some.common,
  c.in-Some.ensures,
  known_found c.args.its.now c.in-Some-split_first.others.now c.in-Some-split_first.stream.now c.in-Some-blank.state c.args.session c.in-Some.common c.known.result c.number_of-in-Some-blank.result c.is_empty.result
      c.in-Some-split_first.ensures.cases.0 c.is_empty.ensures c.if-not-is_empty.false c.in-Some-blank.ensures c.known.ensures c.number_of-in-Some-blank.ensures,
)
