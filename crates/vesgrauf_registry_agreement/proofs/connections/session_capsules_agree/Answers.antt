use Rattle.vesgrauf_registry_agreement.proofs.ConnectionLemmas.{same_sort}
use Rattle.vesgrauf_registry_agreement.proofs.connections.session_capsules_agree.Goals as goal

pub returns : goal.returns
returns c = same_sort
