use Rattle.vesgrauf_stream.proofs.SaidLemmas.{nothing_after}
use Rattle.vesgrauf_stream.proofs.laws.nothing_is_said_after_the_end.Goals as goal

pub returns : goal.returns
returns c = nothing_after
