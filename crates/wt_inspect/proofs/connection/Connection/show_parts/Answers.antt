use Rattle.std.proofs.Common.{◌++◌, arith}
use Rattle.wt_inspect.proofs.ConnectionLemmas.{shown_end, shown_next, worse_is}
use Rattle.wt_inspect.proofs.SheetLemmas.{draws_keeps, draws_then}
use Rattle.wt_inspect.proofs.connection.Connection.show_parts.Goals as goal

pub loop-part-preserved : goal.loop-part-preserved
loop-part-preserved g c =
    let status = c.loop-part.invariant.status in
    let (text, was, so_far) = c.loop-part.invariant.shows in
    let (first, added, shows) = c.in_ok-shown.ensures.shows in
    record {
      status = rw c.worse-status.ensures (worse_is c.loop-part.status c.in_ok-shown.shown status c.in_ok-shown.ensures.statuses);
      shows = (
        text ++ first,
        draws_then _ _ _ _ text first was added,
        λ more s then.
            rw c.worse-status.ensures (shown_next c.args.self.now c.loop-part.before c.args.parts.now c.loop-part.part-index _ text first c.loop-part.status c.in_ok-shown.shown (omega arith) status c.in_ok-shown.ensures.statuses so_far (rw c.is_new.ensures at shows) more s then),
      );
    }

pub returns-clause-shows : goal.returns-clause-shows
returns-clause-shows g c =
    let (text, was, so_far) = c.loop-part.invariant.shows in
    (text, draws_keeps _ _ _ _ text was c.in_ok-flush.ensures.writes, shown_end c.args.self.now c.loop-part.before c.args.parts.now c.loop-part.part-index text c.loop-part.status (omega arith) c.loop-part.invariant.status so_far)
