use Rattle.std.proofs.Common.{◌++◌, ◌∙◌, refl, sym, ap}
use Rattle.std.specs.Prelude.{◌||◌}
use Rattle.std.specs.List.{list_any}
use Rattle.std.proofs.lemmas.List.Folds.{list_any-append}
use Rattle.wt_inspect.specs.Statuses.{is_breach}
use Rattle.wt_inspect.proofs.SheetLemmas.{count_more, ok_map, so_far_is, so_far_more}
use Rattle.wt_inspect.proofs.showing.Showing.show_item.Goals as goal

pub returns-clause-shows : goal.returns-clause-shows
returns-clause-shows g c =
    let old = c.args.self.now in
    let format = old.arguments.now.output in
    let here = c.take_warnings-warnings.result.items in
    ok_map _ _ c.write_piece.result
    (λ done writes. record {
      same = record { input = c.take_warnings-warnings.ensures.input; arguments = refl; bytes = refl };
      left = c.take_warnings-warnings.ensures.left;
      shows = λ text items warnings was.
          let far = so_far_more format _ _ text _ _ was.lines (rw c.as_slice-2.ensures.value at c.add_item.ensures format) in
          let (more, added, lines) = writes format _ text far in (
            more,
            added,
            (
              _,
              warnings ++ here,
              record {
                items = c.take_warnings-warnings.ensures.items _ was.items;
                bytes = ap (λ i. i.bytes) c.take_warnings-warnings.ensures.input ∙ was.bytes;
                lines = so_far_is format _ _ (text ++ more) _ (sym (count_more format old.arguments.now.has_payload old.bytes.now items c.args.item.now warnings here)) lines;
                breach = (rw c.as_slice.ensures.value at c.is_breached_by-self.ensures) ∙ ap (λ b. b || list_any is_breach here) was.breach ∙ sym (list_any-append is_breach warnings here);
              },
            ),
          );
    })
    c.write_piece.ensures.writes
