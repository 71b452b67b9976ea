use Rattle.wt_c.proofs.BlankLemmas.{answer_done}
use Rattle.wt_c.proofs.connections.streams.wt_stream_answer.Goals as goal

pub returns-in-Some-clause-answered : goal.returns-in-Some-clause-answered
returns-in-Some-clause-answered c = λ _. answer_done c.args.stream.now c.after.result c.in-Some.state c.answer.new.self c.args.status c.in-Some.ensures c.answer.ensures c.after.ensures
