use Rattle.vesgrauf.proofs.JoinedLemmas.{as_given}
use Rattle.vesgrauf.proofs.connection.Connection.first_control_bytes.Goals as goal

pub returns-in-Ok-clause-others : goal.returns-in-Ok-clause-others
returns-in-Ok-clause-others c = as_given _ _ _ _ _

pub returns-clause-others : goal.returns-clause-others
returns-clause-others c = as_given _ _ _ _ _
