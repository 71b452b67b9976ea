use Rattle.std.proofs.Common.{◌≡◌, List, true}
use Rattle.std.specs.Prelude.{option_map}
use Rattle.wt_inspection.specs.Items.{HasGiven, input_of, input_with, left_of}
use Rattle.wt_inspection.specs.Results.{Item}
use Rattle.wt_inspection.specs.declared.reading.Recorded.TheVariants.{Bi}
use Rattle.wt_inspect.specs.Connections.{HaveNoSection}
use Rattle.wt_inspect.proofs.connection.sessions.opens_session.Given as goal

-- the items so far have no header section
abbrev pub invariant-items : goal.invariant-items
invariant-items l =
    (input_of l.items ≡ input_with Bi true l.bytes (option_map (λ i. i.now) l.sent))
    × (given : List Item) × HaveNoSection given × HasGiven given l.items

abbrev pub decreases-items : goal.decreases-items
decreases-items l = left_of l.items
