use Rattle.std.proofs.Common.{◌≡◌}
use Rattle.std.specs.Prelude.{take}
use Rattle.wt_qpack.specs.Lines.{list_in}
use Rattle.wt_qpack.proofs.listing.list_of.Given as goal

abbrev pub invariant-loop-field : goal.invariant-loop-field
invariant-loop-field l = l.list ≡ list_in (take l.field-index l.fields)
