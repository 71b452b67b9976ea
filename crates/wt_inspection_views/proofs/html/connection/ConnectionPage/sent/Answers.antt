use Rattle.std.proofs.Common.{[], ◌∷◌}
use Rattle.wt_inspection_views.specs.Html.{entry_of, sent_entry}
use Rattle.wt_inspection_views.proofs.PageLemmas.{page_entered}
use Rattle.wt_inspection_views.proofs.html.connection.ConnectionPage.sent.Goals as goal

pub returns : goal.returns
returns c =
    page_entered (sent_entry c.args.sent.now.is_server ∷ []) (entry_of c.begin_sent.result) c.args.self.now.page c.markup.new.self c.fragment.new.self c.begin_sent.ensures c.markup.ensures c.fragment.ensures
