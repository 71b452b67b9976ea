use Rattle.std.proofs.Common.{◌++◌}
use Rattle.wt_inspect.specs.PageShown.{page_entries, session_entries, verdict_entries}
use Rattle.wt_inspect.proofs.SheetLemmas.{ok_map}
use Rattle.wt_inspect.proofs.ViewLemmas.{page_has}
use Rattle.wt_inspect.proofs.connection.Connection.page_of.Goals as goal

pub returns : goal.returns
returns c =
    let server = c.args.verdicts.now.server.items in
    let client = c.args.verdicts.now.client.items in
    let sessions = session_entries c.args.summaries.now in
    let has = page_has server client c.as_slice-server.result.now c.as_slice-client.result.now sessions c.new-page.result.page c.add_verdicts.new.page.page c.add_verdicts-2.new.page.page c.add_sessions.new.page.page c.as_slice-server.ensures.value c.as_slice-client.ensures.value c.new-page.ensures c.in_ok-add_verdicts.ensures c.in_ok-add_verdicts-2.ensures c.in_ok-add_sessions.ensures in
    ok_map _ _ c.finish.result
    (λ page are. are (page_entries c.args.verdicts.now c.args.summaries.now c.args.views.now) (c.in_ok-add_views.ensures (verdict_entries server ++ verdict_entries client ++ sessions) has))
    c.finish.ensures
