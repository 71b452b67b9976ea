use Rattle.vesgrauf_ready.proofs.Rounds.{shares}
use Rattle.vesgrauf_ready.proofs.laws.turns_are_shared.Goals as goal

pub returns : goal.returns
returns c = shares
