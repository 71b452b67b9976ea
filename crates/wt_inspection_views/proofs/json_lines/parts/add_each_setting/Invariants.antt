use Rattle.wt_inspection_views.specs.Objects.{AddsElements}
use Rattle.wt_inspection_views.proofs.json_lines.parts.add_each_setting.Given as goal

abbrev pub invariant-loop-setting : goal.invariant-loop-setting
invariant-loop-setting l = AddsElements l.fn.object l.object
