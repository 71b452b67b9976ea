use Rattle.std.proofs.Common.{take}
use Rattle.wt_inspection_views.specs.Html.{AddsEntries}
use Rattle.wt_inspect.specs.PageShown.{verdict_entries}
use Rattle.wt_inspect.proofs.connection.page.add_verdicts.Given as goal

-- the entries so far
abbrev pub invariant-loop-verdict : goal.invariant-loop-verdict
invariant-loop-verdict l =
    AddsEntries (verdict_entries (take l.verdict-index l.verdicts)) l.fn.page.page l.page.page
