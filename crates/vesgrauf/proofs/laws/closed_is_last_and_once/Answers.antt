use Rattle.vesgrauf.proofs.CallLemmas.{ends_once}
use Rattle.vesgrauf.proofs.laws.closed_is_last_and_once.Goals as goal

pub returns : goal.returns
returns c = ends_once
