use Rattle.vesgrauf_ready.proofs.Orders.{removed}
use Rattle.vesgrauf_ready.proofs.ready.take_out.Goals as goal

pub returns : goal.returns
returns c = λ y. removed c.args.ranks.now c.remove.new.self c.args.rank y c.remove.ensures.updates
