use Rattle.std.proofs.Common.{[], arith}
use Rattle.vesgrauf.proofs.KeepsOwnLemmas.{keeps_holds, holds_then}
use Rattle.vesgrauf.specs.Keeps.{KeepsOwn}
use Rattle.vesgrauf.proofs.connection.Connection.bytes_came.Goals as goal

pub returns-in_err-keep-clause-keeps : goal.returns-in_err-keep-clause-keeps
returns-in_err-keep-clause-keeps c =
    let h : KeepsOwn [] c.args.self.now c.keep.new.self = holds_then (keeps_holds c.wait.ensures.keeps) c.keep.ensures.keeps in
    grind (arith, h)

pub returns-then-is_paused-clause-keeps : goal.returns-then-is_paused-clause-keeps
returns-then-is_paused-clause-keeps c = holds_then (keeps_holds c.wait.ensures.keeps) c.keep.ensures.keeps
