use Rattle.std.proofs.Common.{◌≡◌, ◌+◌, drop}
use Rattle.wtp_dynamic.specs.Table.{table_size, excess}
use Rattle.wtp_dynamic.proofs.table.DynamicTable.dropped_for.Given as goal

abbrev pub invariant-loop-i : goal.invariant-loop-i
invariant-loop-i l = record {
  size : l.size ≡ table_size (drop l.i l.self.live);
  gone : l.i + excess l.room (drop l.i l.self.live) ≡ excess l.room l.self.live;
}
