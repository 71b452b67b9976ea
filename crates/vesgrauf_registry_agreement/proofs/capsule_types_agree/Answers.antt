use Rattle.vesgrauf_registry_agreement.proofs.TableLemmas.{same_capsule, same_longest}
use Rattle.vesgrauf_registry_agreement.proofs.capsule_types_agree.Goals as goal

pub returns-clause-kind : goal.returns-clause-kind
returns-clause-kind c = same_capsule

pub returns-clause-longest : goal.returns-clause-longest
returns-clause-longest c = same_longest
