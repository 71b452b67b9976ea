use Rattle.wt_inspection_views.specs.Lines.{Gains}
use Rattle.wt_inspection_views.proofs.text.parts.add_fields.Given as goal

abbrev pub invariant-loop-line : goal.invariant-loop-line
invariant-loop-line l = Gains l.line-index l.fn.text l.text
