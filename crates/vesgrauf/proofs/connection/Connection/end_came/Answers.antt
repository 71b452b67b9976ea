use Rattle.std.proofs.Common.{[], ◌∷◌}
use Rattle.vesgrauf.specs.Items.{Ends}
use Rattle.vesgrauf.proofs.KeepsLemmas.{keeps_left}
use Rattle.vesgrauf.proofs.StepLemmas.{left_trans}
use Rattle.vesgrauf.proofs.TellsLemmas.{told_or_gone}
use Rattle.vesgrauf.proofs.connection.Connection.end_came.Goals as goal

pub returns-clause-hands : goal.returns-clause-hands
returns-clause-hands c = told_or_gone c.args.id (Ends ∷ []) c.tell_end-step.result c.args.self.now.streams.entries
    c.after_told_end.new.self.streams.entries c.tell_end-step.ensures.is
    (left_trans (keeps_left c.tell_end-step.ensures.keeps)
    (keeps_left (c.after_told_end.ensures.keeps c.tell_end-step.ensures.gone)))
    (c.after_told_end.ensures.gone c.tell_end-step.ensures.gone)
