use Rattle.std.proofs.Common.{List, ◌++◌, drop}
use Rattle.wt_inspect.specs.SessionsShown.{AreNamed, SumUp}
use Rattle.wt_inspect.specs.declared.connection.summary.Summary.{Summary}
use Rattle.wt_inspect.proofs.connection.Connection.summaries_of.Given as goal

-- the sessions so far, after which the rest come
abbrev pub invariant-loop-id : goal.invariant-loop-id
invariant-loop-id l =
    AreNamed l.self.pieces.now l.named
    → (more : List Summary) → SumUp l.self (drop l.id-index l.ids) more
    → SumUp l.self l.ids (l.summaries.items ++ more)
