use Rattle.std.proofs.Common.{List, ap, subst, ◌∙◌}
use Rattle.wt_inspection_views.specs.Html.{IsPageOf}
use Rattle.wt_inspect.specs.PageShown.{page_entries, status_by}
use Rattle.wt_inspect.specs.declared.connection.page.View.{View}
use Rattle.wt_inspect.specs.declared.connection.summary.Summary.{Summary}
use Rattle.wt_inspect.proofs.SheetLemmas.{appends_keeps}
use Rattle.wt_inspect.proofs.connection.Connection.show_page.Goals as goal

pub returns-clause-shows : goal.returns-clause-shows
returns-clause-shows g c =
    let verdicts = c.args.verdicts.now in
    let page = c.in_ok-page.page.items in
    let views = c.as_slice-views.result.now in (
      page,
      appends_keeps _ _ _ _ (rw c.as_slice.ensures.value at c.in_ok-write.ensures.writes) c.in_ok-flush.ensures.writes,
      (
        c.in_ok-sums.sums.items,
        c.in_ok-found.found.items,
        c.in_ok-sums.ensures,
        c.in_ok-found.ensures,
        subst (λ (x : List View). IsPageOf (page_entries verdicts c.in_ok-sums.sums.items x) page) c.as_slice-views.ensures.value (subst (λ (x : List Summary). IsPageOf (page_entries verdicts x views) page) c.as_slice-summaries.ensures.value c.in_ok-page.ensures),
        c.status_by.ensures.status ∙ ap (λ (x : List View). status_by c.args.self.now verdicts x) c.as_slice-views.ensures.value,
      ),
    )
