use Rattle.wt_inspection_views.specs.Objects.{AddsElements}
use Rattle.wt_inspection_views.proofs.json_lines.parts.add_fields.Given as goal

abbrev pub invariant-loop-line : goal.invariant-loop-line
invariant-loop-line l = AddsElements l.fn.object l.object
