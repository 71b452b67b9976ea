use Rattle.vesgrauf_ready.proofs.Rounds.{in_order}
use Rattle.vesgrauf_ready.proofs.laws.turns_are_in_order.Goals as goal

pub returns-clause-order : goal.returns-clause-order
returns-clause-order c = in_order
