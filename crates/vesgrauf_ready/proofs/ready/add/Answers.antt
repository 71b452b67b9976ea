use Rattle.vesgrauf_ready.proofs.Orders.{added}
use Rattle.vesgrauf_ready.proofs.ready.add.Goals as goal

pub returns-in-Ok : goal.returns-in-Ok
returns-in-Ok c = λ y. added c.args.ranks.now c.insert.new.self c.args.rank y c.in-Ok.ensures.updates
