use Rattle.vesgrauf_ready.proofs.Orders.{last_all}
use Rattle.vesgrauf_ready.proofs.ready.last.Goals as goal

pub returns : goal.returns
returns c = rw c.copied.ensures (last_all c.args.ranks.now c.last.result c.last.ensures.variant.1 c.last.ensures.member c.last.ensures.greatest)
