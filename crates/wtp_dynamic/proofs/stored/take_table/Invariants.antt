use Rattle.std.proofs.Common.{◌≡◌, ◌≤◌, ◌++◌, ◌-◌, length}
use Rattle.wtp_dynamic.specs.Table.{table_size}
use Rattle.wtp_dynamic.specs.Stored.{entries_bytes}
use Rattle.wtp_dynamic.proofs.stored.take_table.Given as goal

abbrev pub invariant-loop-count : goal.invariant-loop-count
invariant-loop-count l = record {
  limit : l.table.limit ≡ l.head.limit;
  capacity : l.table.capacity ≡ l.head.capacity;
  dropped : l.table.dropped ≡ l.head.dropped;
  size : table_size l.table.live ≤ l.table.capacity;
  count : length l.table.live ≡ l.count;
  most : l.count ≤ l.head.count;
  bytes : l.bytes ≡ entries_bytes l.table.live ++ l.rest;
}

abbrev pub decreases-loop-count : goal.decreases-loop-count
decreases-loop-count l = l.head.count - l.count
