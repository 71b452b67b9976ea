use Rattle.std.proofs.Common.{take, sum_by}
use Rattle.wt_inspection_views.specs.Lines.{Gains}
use Rattle.wt_inspection_views.specs.TextLines.{capsule_lines}
use Rattle.wt_inspection_views.proofs.text.add_capsules.Given as goal

abbrev pub invariant-loop-capsule : goal.invariant-loop-capsule
invariant-loop-capsule l =
    Gains (sum_by capsule_lines (take l.capsule-index l.capsules)) l.fn.text l.text
