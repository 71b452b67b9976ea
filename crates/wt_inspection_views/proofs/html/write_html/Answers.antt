use Rattle.std.proofs.Common.{[]}
use Rattle.wt_inspection_views.proofs.PageLemmas.{ok_map}
use Rattle.wt_inspection_views.proofs.html.write_html.Goals as goal

pub returns : goal.returns
returns c =
    ok_map _ _ c.into_bytes.result
    (λ page are.
    let is = are [] (c.fragment.ensures [] c.new-page.ensures) in
    (is.0, is.1))
    c.into_bytes.ensures
