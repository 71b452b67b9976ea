use Rattle.vesgrauf.proofs.KeepsLemmas.{keeps_then}
use Rattle.vesgrauf.specs.Keeps.{Keeps}
use Rattle.std.proofs.Common.{[], arith}
use Rattle.vesgrauf.proofs.connection.Connection.session_stopped.Goals as goal

pub returns-in_err-shut-clause-keeps : goal.returns-in_err-shut-clause-keeps
returns-in_err-shut-clause-keeps c =
    let h : Keeps [] c.args.self.now c.shut.new.self = keeps_then c.tell_read.ensures.quiet c.shut.ensures.keeps in
    grind (arith, h)
