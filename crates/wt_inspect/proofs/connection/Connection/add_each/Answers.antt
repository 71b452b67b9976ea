use Rattle.std.proofs.Common.{refl, arith}
use Rattle.wt_inspection_views.specs.Html.{summary}
use Rattle.wt_inspect.specs.declared.connection.summary.Summary.{Summary}
use Rattle.wt_inspect.proofs.ViewLemmas.{entries_end, entries_next, keeps_same}
use Rattle.wt_inspect.proofs.connection.Connection.add_each.Goals as goal

pub loop-summary-preserved : goal.loop-summary-preserved
loop-summary-preserved c =
    entries_next (λ (s : Summary). summary) c.args.summaries.now c.loop-summary.summary-index c.summary-item.result summary c.args.page.now.page c.loop-summary.page.page c.loop-summary.page.page c.session.new.self.page (omega arith) c.loop-summary.invariant (keeps_same c.loop-summary.page.page) refl c.session.ensures

pub returns : goal.returns
returns c =
    entries_end (λ (s : Summary). summary) c.args.summaries.now c.loop-summary.summary-index c.args.page.now.page c.loop-summary.page.page (omega arith) c.loop-summary.invariant
