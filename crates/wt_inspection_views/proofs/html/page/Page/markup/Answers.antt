use Rattle.std.proofs.Common.{◌≡◌, ◌++◌, List, ℕ, cond, is_ok, subst, ◌∙◌}
use Rattle.wt_inspection_views.specs.Html.{markup_bytes}
use Rattle.wt_inspection_views.proofs.PageLemmas.{page_marked}
use Rattle.wt_inspection_views.proofs.html.page.Page.markup.Goals as goal

pub returns : goal.returns
returns c =
    let e : c.as_bytes.result.now ≡ markup_bytes c.args.markup = c.as_bytes.ensures.value ∙ c.as_str.ensures in
    let old = c.args.self.now.out.items in
    page_marked c.args.markup c.args.self.now (record c.args.self.now { out = c.extend_from_slice-added.new.self; is_whole = c.note.new.self }) c.extend_from_slice-added.result (subst (λ (x : List ℕ). c.extend_from_slice-added.new.self.items ≡ cond (is_ok c.extend_from_slice-added.result) (old ++ x) old) e c.extend_from_slice-added.ensures.items) c.note.ensures.ok c.note.ensures.err
