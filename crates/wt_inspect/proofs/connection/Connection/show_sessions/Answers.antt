use Rattle.std.proofs.Common.{List, length, subst}
use Rattle.wt_inspect.specs.SessionsShown.{session_lines}
use Rattle.wt_inspect.specs.Sheets.{AreLinesOf}
use Rattle.wt_inspect.specs.declared.connection.summary.Summary.{Summary}
use Rattle.wt_inspect.proofs.connection.Connection.show_sessions.Goals as goal

pub returns-clause-shows : goal.returns-clause-shows
returns-clause-shows g c =
    let output = c.args.self.now.arguments.now.output in
    let drawn = c.in_ok-text.ensures in (
      drawn.text,
      record { written = c.in_ok-text.text.items; drawn = drawn.drawn; appends = rw c.as_slice-lines.ensures.value at c.in_ok-write.ensures.writes },
      record {
        summaries = c.in_ok-summaries.summaries.items;
        are = c.in_ok-summaries.ensures;
        lines = subst (λ (x : List Summary). AreLinesOf output (session_lines output (length x)) drawn.text) c.as_slice-found.ensures.value drawn.lines;
      },
    )
