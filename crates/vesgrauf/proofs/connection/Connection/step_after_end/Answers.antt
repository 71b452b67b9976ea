use Rattle.std.proofs.Common.{◌≡◌, [], arith}
use Rattle.std.proofs.lemmas.Grind.{common_steps}
use Rattle.vesgrauf.proofs.KeepsLemmas.{keeps_then}
use Rattle.vesgrauf.proofs.connection.Connection.step_after_end.Goals as goal

pub returns-in-Some-clause-keeps : goal.returns-in-Some-clause-keeps
returns-in-Some-clause-keeps c =
    let none : c.drop_report.new.self.events.items ≡ [] = grind (arith, common_steps, c.drop_report.ensures.events) in
    keeps_then c.drop_report.ensures.keeps (c.tell_last.ensures.keeps none)
