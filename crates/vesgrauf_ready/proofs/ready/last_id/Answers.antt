use Rattle.vesgrauf_ready.proofs.Orders.{id_of_last, id_of_other, id_of_none}
use Rattle.vesgrauf_ready.proofs.ready.last_id.Goals as goal

pub returns-in-Some : goal.returns-in-Some
returns-in-Some c = id_of_last c.args.ranks.now.keys c.in-Some.last c.args.class c.in-Some.ensures c.if-last-class.true

pub returns-in_default : goal.returns-in_default
returns-in_default c = id_of_other c.args.ranks.now.keys c.in-Some.last c.args.class c.in-Some.ensures c.if-last-class.false

pub returns-in_default-2 : goal.returns-in_default-2
returns-in_default-2 c = id_of_none c.args.ranks.now.keys c.args.class c.in_default.ensures
