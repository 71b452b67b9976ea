use Rattle.std.proofs.Common.{[], arith}
use Rattle.vesgrauf.specs.Keeps.{KeepsOwn}
use Rattle.vesgrauf.proofs.KeepsLemmas.{keeps_then}
use Rattle.vesgrauf.proofs.KeepsOwnLemmas.{keeps_holds, holds_then}
use Rattle.vesgrauf.proofs.connection.Connection.malformed_came.Goals as goal

pub returns-in_err-leave_refused-clause-keeps : goal.returns-in_err-leave_refused-clause-keeps
returns-in_err-leave_refused-clause-keeps c =
    let h : KeepsOwn [] c.args.self.now c.leave_refused.new.self = holds_then
    (keeps_holds (keeps_then c.end_session.ensures.keeps c.tell_closed.ensures.keeps))
    (c.leave_refused.ensures.keeps c.in_ok-tell_closed.ensures.done) in
    grind (arith, h)

pub returns-clause-keeps : goal.returns-clause-keeps
returns-clause-keeps c = holds_then (keeps_holds (keeps_then c.end_session.ensures.keeps c.tell_closed.ensures.keeps))
    (c.leave_refused.ensures.keeps c.in_ok-tell_closed.ensures.done)

pub returns-in_err-tell_closed-clause-keeps : goal.returns-in_err-tell_closed-clause-keeps
returns-in_err-tell_closed-clause-keeps c =
    let h : KeepsOwn [] c.args.self.now c.tell_closed.new.self
    = keeps_holds (keeps_then c.end_session.ensures.keeps c.tell_closed.ensures.keeps) in
    grind (arith, h)
