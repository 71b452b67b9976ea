use Rattle.std.proofs.Common.{[], ◌∙◌, refl, ap, arith}
use Rattle.wt_inspect.proofs.SheetLemmas.{draws_none, so_far_same}
use Rattle.wt_inspect.proofs.showing.Showing.show_next.Goals as goal

pub returns-in_ok-show_item-in-Some-clause-shows : goal.returns-in_ok-show_item-in-Some-clause-shows
returns-in_ok-show_item-in-Some-clause-shows g c =
    let gives = rw c.in-Some.is at c.in_ok-next.ensures.gives in
    let shown = c.in_ok-show_item-in-Some.ensures.shows in
    record {
      same = record { input = shown.same.input ∙ c.in_ok-next.ensures.input; arguments = shown.same.arguments; bytes = shown.same.bytes };
      advances = omega (arith, gives.0, shown.left);
      shows = λ text was. shown.shows text was.0 was.1 (record {
        items = gives.1 was.0 was.2.items;
        bytes = ap (λ i. i.bytes) c.in_ok-next.ensures.input ∙ was.2.bytes;
        lines = was.2.lines;
        breach = was.2.breach;
      });
    }

pub returns-in-None-clause-shows : goal.returns-in-None-clause-shows
returns-in-None-clause-shows g c =
    let gives = rw c.in-None.is at c.in_ok-next.ensures.gives in
    record {
      same = record { input = c.in_ok-next.ensures.input; arguments = refl; bytes = refl };
      advances = gives.0;
      shows = λ text was. (
        [],
        draws_none _ (g.W.Write.contents c.args.output.now),
        (
          was.0,
          was.1,
          record {
            items = gives.1 was.0 was.2.items;
            bytes = ap (λ i. i.bytes) c.in_ok-next.ensures.input ∙ was.2.bytes;
            lines = so_far_same _ _ text _ was.2.lines;
            breach = was.2.breach;
          },
        ),
      );
    }
