use Rattle.std.proofs.Common.{◌≡◌, ◌+◌, IsTrue, take, length, sum_by}
use Rattle.wt_inspection_views.specs.Escaped.{line_count}
use Rattle.wt_inspection_views.specs.TextLines.{item_lines}
use Rattle.wt_inspection_views.proofs.text.write_text.Given as goal

abbrev pub invariant-loop-item : goal.invariant-loop-item
invariant-loop-item l =
    IsTrue l.text.is_whole → line_count l.text.text + length l.warnings
    ≡ sum_by (item_lines l.payload l.bytes) (take l.item-index l.inspection.items.items)
    + length l.inspection.warnings.items
