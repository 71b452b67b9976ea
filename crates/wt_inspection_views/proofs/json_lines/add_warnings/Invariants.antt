use Rattle.wt_inspection_views.specs.Objects.{AddsLines}
use Rattle.wt_inspection_views.proofs.json_lines.add_warnings.Given as goal

abbrev pub invariant-loop-warning : goal.invariant-loop-warning
invariant-loop-warning l = AddsLines l.warning-index l.fn.lines l.lines
