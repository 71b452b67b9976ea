use Rattle.vesgrauf_ready.proofs.Orders.{last_is}
use Rattle.vesgrauf_ready.proofs.ready.last_before.Goals as goal

pub returns : goal.returns
returns c = rw c.copied.ensures (last_is c.args.ranks.now c.args.end c.range.result c.next_back.result c.next_back.new.self (c.range.ensures.in_range tt) c.next_back.ensures.steps)
