use Rattle.std.proofs.Common.{[], arith}
use Rattle.vesgrauf.specs.Keeps.{KeepsOwn}
use Rattle.vesgrauf.proofs.KeepsLemmas.{keeps_then}
use Rattle.vesgrauf.proofs.KeepsOwnLemmas.{keeps_holds, holds_then}
use Rattle.vesgrauf.proofs.connection.Connection.credit_kept.Goals as goal

pub returns-clause-keeps : goal.returns-clause-keeps
returns-clause-keeps c = holds_then (keeps_holds (keeps_then c.take_withheld-owed.ensures.keeps
    c.credit_held.ensures.keeps)) c.check_kept.ensures.keeps

pub returns-in_err-credit_held-clause-keeps : goal.returns-in_err-credit_held-clause-keeps
returns-in_err-credit_held-clause-keeps c =
    let h : KeepsOwn [] c.args.self.now c.credit_held.new.self
    = keeps_holds (keeps_then c.take_withheld-owed.ensures.keeps c.credit_held.ensures.keeps) in
    grind (arith, h)
