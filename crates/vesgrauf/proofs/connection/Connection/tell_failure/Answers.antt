use Rattle.vesgrauf.proofs.JoinedLemmas.{as_given}
use Rattle.vesgrauf.proofs.connection.Connection.tell_failure.Goals as goal

pub returns-then-eq-clause-others : goal.returns-then-eq-clause-others
returns-then-eq-clause-others c = as_given _ _ _ _ _

pub returns-in_err-push_back-clause-others : goal.returns-in_err-push_back-clause-others
returns-in_err-push_back-clause-others c = as_given _ _ _ _ _

pub returns-clause-others : goal.returns-clause-others
returns-clause-others c = as_given _ _ _ _ _
