use Rattle.std.proofs.Common.{◌+◌, ◌-◌, ◌≤◌, length}
use Rattle.wt_inspection_views.specs.Objects.{HasLines}
use Rattle.wt_inspection_views.proofs.json_lines.write_json.Given as goal

abbrev pub invariant-loop-item : goal.invariant-loop-item
invariant-loop-item l = record {
  fewer : length l.warnings ≤ length l.inspection.warnings.items;
  lines : HasLines (l.item-index + (length l.inspection.warnings.items - length l.warnings)) l.lines;
}
