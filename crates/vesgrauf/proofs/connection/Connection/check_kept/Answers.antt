use Rattle.vesgrauf.proofs.KeepsLemmas.{keeps_then}
use Rattle.vesgrauf.proofs.KeepsOwnLemmas.{keeps_holds}
use Rattle.vesgrauf.proofs.connection.Connection.check_kept.Goals as goal

pub returns-clause-keeps : goal.returns-clause-keeps
returns-clause-keeps c = keeps_holds (keeps_then c.overflow-fault.ensures.keeps c.overflowed.ensures.keeps)
