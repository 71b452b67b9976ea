use Rattle.std.proofs.Common.{◌≡◌}
use Rattle.std.specs.Prelude.{option_map}
use Rattle.wt_inspection.specs.Items.{HasGiven, input_of, input_with, left_of}
use Rattle.wt_inspection.proofs.items.inspect_with.Given as goal

abbrev pub invariant-items : goal.invariant-items
invariant-items l =
    (input_of l.inspecting ≡ input_with l.fn.kind l.fn.«open» l.bytes (option_map (λ i. i.now) l.fn.sent))
    × HasGiven l.items.items l.inspecting

abbrev pub decreases-items : goal.decreases-items
decreases-items l = left_of l.inspecting
