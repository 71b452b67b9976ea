use Rattle.std.proofs.Common.{refl}
use Rattle.wt_inspection.proofs.items.Inspecting.take_warnings.Goals as goal

pub returns : goal.returns
returns c = record {
  input = refl;
  left = refl;
  items = λ items given. record {
    within = given.within;
    tiles = given.tiles;
    stage = given.stage;
    reads = given.reads;
    holds = given.holds;
    sections = given.sections;
  };
}
