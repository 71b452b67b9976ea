use Rattle.std.proofs.Common.{take}
use Rattle.std.specs.Prelude.{map}
use Rattle.wt_inspection_views.specs.Html.{AddsEntries}
use Rattle.wt_inspect.specs.PageShown.{view_entry}
use Rattle.wt_inspect.proofs.connection.Connection.add_views.Given as goal

-- the entries so far
abbrev pub invariant-loop-view : goal.invariant-loop-view
invariant-loop-view l =
    AddsEntries (map view_entry (take l.view-index l.views)) l.fn.page.page l.page.page
