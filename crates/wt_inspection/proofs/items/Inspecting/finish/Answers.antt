use Rattle.std.proofs.Common.{◌≡◌, ◌≤◌, [], arith, drop, length}
use Rattle.std.proofs.lemmas.List.{drop_all}
use Rattle.wt_inspection.proofs.items.Inspecting.finish.Goals as goal

pub returns : goal.returns
returns c = λ items given.
    let i = c.args.self in
    let past : length i.bytes.now ≤ i.at = omega (arith, c.requires) in
    let all : i.at ≡ length i.bytes.now = omega (arith, given.within, past) in
    let none : drop i.at i.bytes.now ≡ [] = drop_all i.at i.bytes.now past in
    record {
      tiles = rw all at given.tiles;
      read = (i.state, given.stage, rw none at given.reads, c.end_of-end.ensures given.stage given.holds);
      sections = given.sections;
    }
