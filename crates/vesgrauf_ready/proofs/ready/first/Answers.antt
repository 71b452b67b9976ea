use Rattle.vesgrauf_ready.proofs.Orders.{first_is}
use Rattle.vesgrauf_ready.proofs.ready.first.Goals as goal

pub returns : goal.returns
returns c = rw c.copied.ensures (first_is c.args.ranks.now c.first.result c.first.ensures.variant.1 c.first.ensures.member c.first.ensures.least)
