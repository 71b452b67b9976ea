use Rattle.vesgrauf_registry_agreement.proofs.ConnectionLemmas.{same_purpose, same_critical}
use Rattle.vesgrauf_registry_agreement.proofs.connections.stream_purposes_agree.Goals as goal

pub returns-clause-purpose : goal.returns-clause-purpose
returns-clause-purpose c = same_purpose

pub returns-clause-critical : goal.returns-clause-critical
returns-clause-critical c = same_critical
