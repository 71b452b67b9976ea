use Rattle.wt_inspection_views.specs.Objects.{AddsElements}
use Rattle.wt_inspection_views.proofs.json_lines.parts.add_each_capsule.Given as goal

abbrev pub invariant-loop-capsule : goal.invariant-loop-capsule
invariant-loop-capsule l = AddsElements l.fn.object l.object
