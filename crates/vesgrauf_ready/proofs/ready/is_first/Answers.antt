use Rattle.vesgrauf_ready.proofs.Orders.{first_by, first_of_none}
use Rattle.vesgrauf_ready.proofs.ready.is_first.Goals as goal

pub returns-in-Some : goal.returns-in-Some
returns-in-Some c = rw c.is_before.ensures (first_by c.args.ranks.now.keys c.in-Some.first c.args.rank.now c.in-Some.ensures)

pub returns-in-None : goal.returns-in-None
returns-in-None c = first_of_none c.args.ranks.now.keys c.args.rank.now c.in-None.ensures
