use Rattle.vesgrauf.proofs.NotedLemmas.{first_from_is}
use Rattle.vesgrauf.proofs.connection.ids.first_from.Goals as goal

pub returns : goal.returns
returns c = rw c.copied.ensures (first_from_is c.args.members.now c.args.session c.range.result c.next.result c.next.new.self (c.range.ensures.in_range tt) c.next.ensures.steps)
