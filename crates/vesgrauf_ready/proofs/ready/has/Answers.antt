use Rattle.std.proofs.Common.{◌∙◌}
use Rattle.vesgrauf_ready.proofs.Orders.{has_ready}
use Rattle.vesgrauf_ready.proofs.ready.has.Goals as goal

pub returns : goal.returns
returns c = c.contains.ensures ∙ has_ready c.args.ranks.now c.args.rank.now
