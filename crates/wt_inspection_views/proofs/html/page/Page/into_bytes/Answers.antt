use Rattle.std.proofs.Common.{◌≡◌, ◌++◌, List, ℕ, ap, ◌∙◌}
use Rattle.wt_inspection_views.specs.declared.html.page.Markup.TheVariants.{Tail}
use Rattle.wt_inspection_views.specs.Html.{markup_bytes}
use Rattle.wt_inspection_views.proofs.PageLemmas.{IsPageOf-ended}
use Rattle.wt_inspection_views.proofs.html.page.Page.into_bytes.Goals as goal

pub returns : goal.returns
returns c = λ entries has.
    let e : c.as_bytes.result.now ≡ markup_bytes Tail = c.as_bytes.ensures.value ∙ c.as_str.ensures in
    let added = c.in_ok-extend_from_slice.ensures.items ∙ ap (λ (x : List ℕ). c.in_ok-out.out.items ++ x) e in
    IsPageOf-ended entries c.args.self.out.items c.extend_from_slice.new.self.items (has c.in_ok-out.ensures.1) (rw c.in_ok-out.ensures.0 at added)
