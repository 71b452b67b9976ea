use Rattle.std.proofs.Common.{[], arith}
use Rattle.vesgrauf.proofs.KeepsOwnLemmas.{keeps_holds, holds_then}
use Rattle.vesgrauf.specs.Keeps.{KeepsOwn}
use Rattle.vesgrauf.proofs.connection.Connection.heard_in_input.Goals as goal

pub returns-in_err-keep-in-Event-Waits-clause-keeps : goal.returns-in_err-keep-in-Event-Waits-clause-keeps
returns-in_err-keep-in-Event-Waits-clause-keeps c =
    let h : KeepsOwn [] c.args.self.now c.keep-in-Event-Waits.new.self = holds_then (keeps_holds c.wait_for.ensures.keeps) c.keep-in-Event-Waits.ensures.keeps in
    grind (arith, h)

pub returns-in-Event-Waits-clause-keeps : goal.returns-in-Event-Waits-clause-keeps
returns-in-Event-Waits-clause-keeps c = holds_then (keeps_holds c.wait_for.ensures.keeps)
    c.keep-in-Event-Waits.ensures.keeps
