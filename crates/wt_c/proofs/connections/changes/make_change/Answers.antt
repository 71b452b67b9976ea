use Rattle.wtp_webtransport.specs.Events.{told_of}
use Rattle.wt_c.proofs.BlankLemmas.{change_done}
use Rattle.wt_c.proofs.connections.changes.make_change.Goals as goal

pub returns-clause-changed : goal.returns-clause-changed
returns-clause-changed c = λ _. change_done c.args.change c.args.connection.now c.set.new.self c.args.stream.now c.after-after.result c.of_change.result c.in-Some.common c.apply-given.new.connection c.in-Some-blank.state c.apply-given.new.stream (told_of c.apply-given.result)
    c.in-Some.ensures c.in-Some-blank.ensures c.apply-given.ensures c.set.ensures c.after-after.ensures c.of_change.ensures
