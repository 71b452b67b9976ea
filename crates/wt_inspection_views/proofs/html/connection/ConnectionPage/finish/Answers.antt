use Rattle.wt_inspection_views.proofs.PageLemmas.{ok_map}
use Rattle.wt_inspection_views.proofs.html.connection.ConnectionPage.finish.Goals as goal

pub returns : goal.returns
returns c =
    ok_map _ _ c.into_bytes.result
    (λ page are entries has. are entries (c.fragment.ensures entries has))
    c.into_bytes.ensures
