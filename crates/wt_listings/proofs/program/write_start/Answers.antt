use Rattle.std.proofs.Common.{◌++◌, take}
use Rattle.wt_listings.proofs.Known.{appends_then}
use Rattle.wt_listings.proofs.ProgramLemmas.{moves}
use Rattle.wt_listings.proofs.program.write_start.Goals as goal

pub writes-preserved : goal.writes-preserved
writes-preserved g c =
    let (start, split, appended) = c.writes.invariant in
    let rest = c.writes.rest.now in
    let count = c.in_ok-count.count in
    (start ++ take count rest, moves _ start rest count split, appends_then _ _ _ start (take count rest) appended c.in_ok-count.ensures.bytes)
