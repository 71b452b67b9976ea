use Rattle.vesgrauf.proofs.RunLemmas.{run_tells}
use Rattle.vesgrauf.proofs.laws.told_is_what_came.Goals as goal

pub returns : goal.returns
returns c = run_tells
