use Rattle.std.proofs.Common.{List, ◌+◌, ◌++◌, sym, subst, arith, drop}
use Rattle.wt_inspect.specs.SessionsShown.{SumUp}
use Rattle.wt_inspect.specs.declared.connection.summary.Summary.{Summary}
use Rattle.wt_inspect.proofs.SummaryLemmas.{sums_end, sums_next}
use Rattle.wt_inspect.proofs.connection.Connection.summaries_of.Goals as goal

pub loop-id-preserved : goal.loop-id-preserved
loop-id-preserved c = λ named.
    subst (λ (x : List Summary). (more : List Summary) → SumUp c.args.self.now (drop (c.loop-id.id-index + 1) c.args.ids.now) more → SumUp c.args.self.now c.args.ids.now (x ++ more)) (sym c.in_ok-push.ensures.items) (sums_next c.args.self.now c.args.ids.now c.loop-id.id-index _ c.loop-id.summaries.items c.in_ok-summary.summary (omega arith) (c.loop-id.invariant named) (c.in_ok-summary.ensures named))

pub returns : goal.returns
returns c = λ named.
    sums_end c.args.self.now c.args.ids.now c.loop-id.id-index c.loop-id.summaries.items (omega arith) (c.loop-id.invariant named)
