use Rattle.std.proofs.Common.{◌≡◌, ◌+◌, ◌++◌, ◌∙◌, arith, length, sym, ap, subst, length-append}
use Rattle.std.specs.Prelude.{◌||◌}
use Rattle.std.specs.List.{list_any}
use Rattle.std.proofs.lemmas.List.Folds.{list_any-append}
use Rattle.wt_inspect.specs.Sheets.{AreLinesOf, lines_of}
use Rattle.wt_inspect.specs.Statuses.{is_breach}
use Rattle.wt_inspect.proofs.SheetLemmas.{draws_keeps, so_far_more, view_with}
use Rattle.wt_inspect.proofs.showing.Showing.finish.Goals as goal

pub returns-clause-shows : goal.returns-clause-shows
returns-clause-shows g c = λ text was.
    let s = c.args.self in
    let format = s.arguments.now.output in
    let payload = s.arguments.now.has_payload in
    let last = c.in_ok-end.warnings.items in
    let showing = was.2 in
    let warned = so_far_more format _ _ text _ _ showing.lines (rw c.as_slice-2.ensures.value at c.add_warnings.ensures format) in
    let ended = so_far_more format _ 1 text _ _ warned (c.add_end.ensures format) in
    let (more, added, are) = c.in_ok-write_all_of.ensures.all format _ text ended in
    let count : lines_of format payload s.bytes.now was.0 was.1 + length last + 1 ≡ lines_of format payload s.bytes.now was.0 (was.1 ++ last) + 1 = omega (arith, length-append was.1 last) in
    let breach = (rw c.as_slice.ensures.value at c.is_breached_by-is_breached.ensures) ∙ ap (λ b. b || list_any is_breach last) showing.breach ∙ sym (list_any-append is_breach was.1 last) in (
      more,
      draws_keeps _ _ _ _ more added c.in_ok-flush.ensures.writes,
      record {
        items = was.0;
        warnings = was.1 ++ last;
        end = c.in_ok-end.end;
        is = c.in_ok-end.ensures was.0 showing.items;
        view = view_with format payload s.bytes.now _ was.0 (was.1 ++ last) (text ++ more) showing.bytes (subst (λ n. AreLinesOf format n (text ++ more)) count are);
        ends = rw breach at c.status_of.ensures.status;
      },
    )
