use Rattle.wt_inspection_views.specs.Lines.{Gains}
use Rattle.wt_inspection_views.proofs.text.parts.add_hex.Given as goal

abbrev pub invariant-loop-row : goal.invariant-loop-row
invariant-loop-row l = Gains l.row l.fn.text l.text
