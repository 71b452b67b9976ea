use Rattle.std.proofs.Common.{◌≡◌, ℕ, List}
use Rattle.std.specs.Prelude.{option_map}
use Rattle.wt_inspection.specs.Items.{input_of, left_of}
use Rattle.wt_inspect.specs.Drawing.{Draws, has_colors}
use Rattle.wt_inspect.specs.Shown.{shown_input}
use Rattle.wt_inspect.specs.Showings.{HasShown}
use Rattle.wt_inspect.proofs.showing.show_lines.Given as goal

-- what was shown so far
abbrev pub invariant-items : goal.invariant-items
invariant-items g l =
    (input_of l.showing.items ≡ shown_input (option_map (λ i. i.now) l.fn.sent) l.fn.arguments l.bytes)
    × (l.showing.arguments.now ≡ l.fn.arguments)
    × (text : List ℕ)
    × Draws (has_colors l.fn.arguments) (g.W.Write.contents l.fn.output) (g.W.Write.contents l.output) text
    × HasShown text l.showing

abbrev pub decreases-items : goal.decreases-items
decreases-items g l = left_of l.showing.items
