use Rattle.vesgrauf_ready.proofs.Orders.{first_after_is}
use Rattle.vesgrauf_ready.proofs.ready.first_after.Goals as goal

pub returns : goal.returns
returns c = rw c.copied.ensures (first_after_is c.args.ranks.now c.args.mark c.range.result c.next.result c.next.new.self (c.range.ensures.in_range tt) c.next.ensures.steps)
