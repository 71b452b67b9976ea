use Rattle.std.proofs.Common.{take}
use Rattle.wt_inspection_views.specs.Html.{AddsEntries}
use Rattle.wt_inspect.specs.PageShown.{session_entries}
use Rattle.wt_inspect.proofs.connection.Connection.add_each.Given as goal

-- the entries so far
abbrev pub invariant-loop-summary : goal.invariant-loop-summary
invariant-loop-summary l =
    AddsEntries (session_entries (take l.summary-index l.summaries)) l.fn.page.page l.page.page
