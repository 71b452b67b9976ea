use Rattle.vesgrauf.proofs.JoinedLemmas.{as_given}
use Rattle.vesgrauf.proofs.connection.Connection.new_member.Goals as goal

pub returns-clause-others : goal.returns-clause-others
returns-clause-others c = as_given _ _ _ _ _
