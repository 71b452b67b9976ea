use Rattle.std.proofs.Common.{◌≡◌, ◌++◌, List, ℕ, cond, is_ok, refl, subst, ap, ◌∙◌}
use Rattle.wt_inspection_views.specs.Html.{text, html_text}
use Rattle.wt_inspection_views.proofs.PageLemmas.{IsFragment-pushed}
use Rattle.wt_inspection_views.proofs.html.page.Fragment.try_text.Goals as goal

pub invariant_of-self : goal.invariant_of-self
invariant_of-self c whole =
    let e : c.as_slice.result.now ≡ html_text c.args.text.now = c.as_slice.ensures.value ∙ (c.in_ok-escaped.ensures ∙ ap html_text c.as_bytes.ensures.value) in
    IsFragment-pushed c.self.inside.out.items c.extend_from_slice.new.self.items (text c.args.text.now) (is_ok c.extend_from_slice.result) refl (c.self.invariant whole) (subst (λ (x : List ℕ). c.extend_from_slice.new.self.items ≡ cond (is_ok c.extend_from_slice.result) (c.self.inside.out.items ++ x) c.self.inside.out.items) e c.extend_from_slice.ensures.items)
