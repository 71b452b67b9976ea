use Rattle.std.proofs.Common.{◌≡◌, ◌++◌, List, ℕ, cond, is_ok, subst, ◌∙◌}
use Rattle.wt_inspection_views.specs.declared.html.page.Markup.TheVariants.{Head}
use Rattle.wt_inspection_views.specs.Html.{markup_bytes}
use Rattle.wt_inspection_views.proofs.PageLemmas.{BeginsPageOf-begun}
use Rattle.wt_inspection_views.proofs.html.page.Page.new.Goals as goal

pub returns : goal.returns
returns c = λ whole.
    let e : c.as_bytes.result.now ≡ markup_bytes Head = c.as_bytes.ensures.value ∙ c.as_str.ensures in
    BeginsPageOf-begun c.new-out.result.items c.extend_from_slice-added.new.self.items (is_ok c.extend_from_slice-added.result) c.after.result c.new-out.ensures.items (subst (λ (x : List ℕ). c.extend_from_slice-added.new.self.items ≡ cond (is_ok c.extend_from_slice-added.result) (c.new-out.result.items ++ x) c.new-out.result.items) e c.extend_from_slice-added.ensures.items) c.after.ensures whole
