use Rattle.vesgrauf.proofs.RunLemmas.{end_is_last}
use Rattle.vesgrauf.proofs.laws.the_end_is_last.Goals as goal

pub returns : goal.returns
returns c = end_is_last
