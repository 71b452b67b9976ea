use Rattle.std.proofs.Common.{◌++◌, refl}
use Rattle.wt_inspect.proofs.SheetLemmas.{draws_then}
use Rattle.wt_inspect.proofs.connection.Connection.show_piece.Goals as goal

pub returns-clause-shows : goal.returns-clause-shows
returns-clause-shows g c =
    let (body, added, are) = c.in_ok-shown.ensures.shows in
    let drawn = rw c.fault_in.ensures at c.in_ok-lines.ensures in
    let head = drawn.text in (
      head ++ body,
      draws_then _ _ _ _ head body (record { written = c.in_ok-lines.lines.items; drawn = drawn.drawn; appends = rw c.as_slice.ensures.value at c.in_ok-write.ensures.writes }) added,
      record {
        head = head;
        body = body;
        shown = c.in_ok-shown.shown;
        text_is = refl;
        head_is = drawn.lines;
        body_is = are;
        status_is = rw c.fault_in.ensures at c.status_with.ensures.status;
      },
    )
