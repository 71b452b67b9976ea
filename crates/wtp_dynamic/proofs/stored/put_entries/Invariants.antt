use Rattle.std.proofs.Common.{◌≡◌, ◌-◌, ◌≤◌, ◌++◌, take}
use Rattle.wtp_dynamic.specs.Stored.{entries_bytes}
use Rattle.wtp_dynamic.proofs.stored.put_entries.Given as goal

abbrev pub invariant-loop-place : goal.invariant-loop-place
invariant-loop-place l = record {
  low : l.table.dropped ≤ l.place;
  bytes : l.out.items ≡ l.initial.out.items ++ entries_bytes (take (l.place - l.table.dropped) l.table.live);
}
