use Rattle.std.proofs.Common.{◌≡◌, ◌++◌, List, ℕ, cond, is_ok, subst, ◌∙◌}
use Rattle.wt_inspection_views.specs.Html.{markup, markup_bytes}
use Rattle.wt_inspection_views.proofs.PageLemmas.{IsFragment-pushed}
use Rattle.wt_inspection_views.proofs.html.page.Fragment.try_markup.Goals as goal

pub invariant_of-self : goal.invariant_of-self
invariant_of-self c whole =
    let e : c.as_bytes.result.now ≡ markup_bytes c.args.markup = c.as_bytes.ensures.value ∙ c.as_str.ensures in
    IsFragment-pushed c.self.inside.out.items c.extend_from_slice.new.self.items (markup c.args.markup) (is_ok c.extend_from_slice.result) c.requires (c.self.invariant whole) (subst (λ (x : List ℕ). c.extend_from_slice.new.self.items ≡ cond (is_ok c.extend_from_slice.result) (c.self.inside.out.items ++ x) c.self.inside.out.items) e c.extend_from_slice.ensures.items)
