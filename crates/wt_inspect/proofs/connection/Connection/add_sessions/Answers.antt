use Rattle.wt_inspect.specs.PageShown.{session_entries}
use Rattle.wt_inspect.proofs.SheetLemmas.{ok_map}
use Rattle.wt_inspect.proofs.ViewLemmas.{keeps_then}
use Rattle.wt_inspect.proofs.connection.Connection.add_sessions.Goals as goal

pub returns : goal.returns
returns c =
    ok_map _ _ c.add_each.result
    (λ _ adds. keeps_then (session_entries c.args.summaries.now) c.args.page.now.page c.sessions.new.self.page c.add_each.new.page.page c.sessions.ensures adds)
    c.add_each.ensures
