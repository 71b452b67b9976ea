use Rattle.std.proofs.Common.{◌≤◌, [], length}
use Rattle.std.proofs.lemmas.Option.{slice_get_past}
use Rattle.wt_inspect.specs.Drawing.{has_colors}
use Rattle.wt_inspect.proofs.ConnectionLemmas.{shows_none}
use Rattle.wt_inspect.proofs.SheetLemmas.{draws_none}
use Rattle.wt_inspect.proofs.connection.Connection.show_part.Goals as goal

pub returns-in-None-clause-shows : goal.returns-in-None-clause-shows
returns-in-None-clause-shows g c =
    let self = c.args.self.now in
    let index = c.args.part.now.index in
    let past : length self.pieces.now ≤ index = c.in-None.ensures.lookup.3 in
    ([], draws_none (has_colors self.arguments.now) (g.W.Write.contents c.args.output.now), shows_none self c.args.is_first _ (slice_get_past self.pieces.now index past))
