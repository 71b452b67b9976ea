use Rattle.vesgrauf_streams.proofs.RunLemmas.{others_keep}
use Rattle.vesgrauf_streams.proofs.laws.others_stay.Goals as goal

pub returns : goal.returns
returns g c = others_keep
