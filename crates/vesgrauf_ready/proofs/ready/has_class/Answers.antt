use Rattle.vesgrauf_ready.proofs.Orders.{has_last, has_no_last}
use Rattle.vesgrauf_ready.proofs.ready.has_class.Goals as goal

pub returns-in-Some : goal.returns-in-Some
returns-in-Some c = has_last c.args.ranks.now.keys c.in-Some.last c.args.class c.in-Some.ensures

pub returns-in-None : goal.returns-in-None
returns-in-None c = has_no_last c.args.ranks.now.keys c.args.class c.in-None.ensures
