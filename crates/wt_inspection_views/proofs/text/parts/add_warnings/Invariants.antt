use Rattle.wt_inspection_views.specs.Lines.{Gains}
use Rattle.wt_inspection_views.proofs.text.parts.add_warnings.Given as goal

abbrev pub invariant-loop-warning : goal.invariant-loop-warning
invariant-loop-warning l = Gains l.warning-index l.fn.text l.text
