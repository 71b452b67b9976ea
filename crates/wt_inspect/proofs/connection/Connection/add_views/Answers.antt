use Rattle.std.proofs.Common.{ap, arith}
use Rattle.wt_inspect.specs.PageShown.{view_entry}
use Rattle.wt_inspect.proofs.ViewLemmas.{entries_end, entries_next}
use Rattle.wt_inspect.proofs.connection.Connection.add_views.Goals as goal

pub loop-view-preserved : goal.loop-view-preserved
loop-view-preserved c =
    entries_next view_entry c.args.views.now c.loop-view.view-index c.view-item.result (view_entry c.view-item.result) c.args.page.now.page c.loop-view.page.page c.begin_stream.new.page.page c.add_view.new.page.page (omega arith) c.loop-view.invariant c.in_ok-begin_stream.ensures (ap view_entry c.view-item.is) c.in_ok-add_view.ensures

pub returns : goal.returns
returns c =
    entries_end view_entry c.args.views.now c.loop-view.view-index c.args.page.now.page c.loop-view.page.page (omega arith) c.loop-view.invariant
