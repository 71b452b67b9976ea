use Rattle.vesgrauf_registry_agreement.proofs.FrameLemmas.{same_kind, same_rules, same_wire}
use Rattle.vesgrauf_registry_agreement.proofs.frame_types_agree.Goals as goal

pub returns-clause-kind : goal.returns-clause-kind
returns-clause-kind c = same_kind

pub returns-clause-rules : goal.returns-clause-rules
returns-clause-rules c = same_rules

pub returns-clause-wire : goal.returns-clause-wire
returns-clause-wire c = same_wire
