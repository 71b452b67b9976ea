use Rattle.std.proofs.Common.{[], ◌∷◌}
use Rattle.wt_inspection_views.specs.Html.{entry_of, verdict_entry}
use Rattle.wt_inspection_views.proofs.PageLemmas.{page_entered}
use Rattle.wt_inspection_views.proofs.html.connection.ConnectionPage.verdict.Goals as goal

pub returns : goal.returns
returns c =
    page_entered (verdict_entry c.args.is_fault ∷ []) (entry_of c.begin_verdict.result) c.args.self.now.page c.markup.new.self c.fragment.new.self c.begin_verdict.ensures c.markup.ensures c.fragment.ensures
