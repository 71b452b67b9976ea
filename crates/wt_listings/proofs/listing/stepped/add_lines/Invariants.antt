use Rattle.std.proofs.Common.{◌≡◌, ◌++◌, take}
use Rattle.std.specs.List.{flat_map}
use Rattle.wt_listings.specs.Lines.{line}
use Rattle.wt_listings.proofs.listing.stepped.add_lines.Given as goal

abbrev pub invariant-loop-frame : goal.invariant-loop-frame
invariant-loop-frame l = l.lines ≡ l.fn.lines ++ flat_map line (take l.frame-index l.frames)
