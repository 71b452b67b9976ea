use Rattle.std.proofs.Common.{[], ◌∷◌, refl}
use Rattle.wt_inspection_views.specs.Html.{summary}
use Rattle.wt_inspection_views.proofs.PageLemmas.{page_entered}
use Rattle.wt_inspection_views.proofs.html.connection.ConnectionPage.session.Goals as goal

pub returns : goal.returns
returns c =
    page_entered (summary ∷ []) (summary ∷ []) c.args.self.now.page c.markup.new.self c.fragment.new.self refl c.markup.ensures c.fragment.ensures
