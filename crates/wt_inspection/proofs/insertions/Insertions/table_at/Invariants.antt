use Rattle.std.proofs.Common.{◌<◌, ◌≤◌, ◌-◌, length, take}
use Rattle.wt_inspection.specs.Insertions.{HasFewer}
use Rattle.wtp_dynamic.specs.Stream.{Stands}
use Rattle.wtp_dynamic.specs.Table.{empty_table}
use Rattle.wt_inspection.proofs.insertions.Insertions.table_at.Given as goal

abbrev pub invariant-loop-i : goal.invariant-loop-i
invariant-loop-i l =
    (l.i ≤ length l.self.bytes)
    × Stands (empty_table l.self.limit) (take l.i l.self.bytes) l.stream.0 l.stream.1
    × (0 < l.i → HasFewer l.self.limit (take (l.i - 1) l.self.bytes) l.count)
