use Rattle.vesgrauf.proofs.KeepsLemmas.{keeps_then, keeps_weak}
use Rattle.vesgrauf.proofs.connection.Connection.give_up_peer.Goals as goal

pub returns-clause-keeps : goal.returns-clause-keeps
returns-clause-keeps c = keeps_then (keeps_weak c.args.id c.abandon.ensures.keeps) c.leave_peer.ensures.keeps
