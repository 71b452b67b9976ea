use Rattle.vesgrauf.proofs.NotedLemmas.{first_after_is}
use Rattle.vesgrauf.proofs.connection.ids.first_after.Goals as goal

pub returns : goal.returns
returns c = rw c.copied.ensures (first_after_is c.args.members.now c.args.session c.args.id c.range.result c.next.result c.next.new.self (c.range.ensures.in_range tt) c.next.ensures.steps)
