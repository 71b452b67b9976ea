use Rattle.std.proofs.Common.{◌≡◌, List}
use Rattle.std.specs.Prelude.{option_map}
use Rattle.wt_inspection.specs.Items.{HasGiven, input_of, input_with, left_of}
use Rattle.wt_inspection.specs.Results.{Item}
use Rattle.wt_inspect.specs.SessionsShown.{Says}
use Rattle.wt_inspect.proofs.connection.summary.read_told.Given as goal

-- what the items so far say
abbrev pub invariant-items : goal.invariant-items
invariant-items l =
    (input_of l.items ≡ input_with l.fn.kind l.is_open l.bytes (option_map (λ i. i.now) l.sent))
    × (given : List Item) × HasGiven given l.items × Says given l.said

abbrev pub decreases-items : goal.decreases-items
decreases-items l = left_of l.items
