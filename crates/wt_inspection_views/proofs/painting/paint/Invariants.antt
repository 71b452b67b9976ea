use Rattle.std.proofs.Common.{◌≡◌, take}
use Rattle.wt_inspection_views.specs.Painting.{IsPaintedTo}
use Rattle.wt_inspection_views.proofs.painting.paint.Given as goal

abbrev pub invariant-loop-byte : goal.invariant-loop-byte
invariant-loop-byte l = record {
  counts : l.at ≡ l.byte-index;
  so_far : IsPaintedTo (take l.byte-index l.text) l.line l.painted.items;
}
