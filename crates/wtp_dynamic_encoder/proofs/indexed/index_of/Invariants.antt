use Rattle.std.proofs.Common.{◌≤◌}
use Rattle.wtp_dynamic_encoder.specs.Hashing.{name_hash, field_hash}
use Rattle.wtp_dynamic_encoder.proofs.Walks.{IsIndexedTo}
use Rattle.wtp_dynamic_encoder.proofs.indexed.index_of.Given as goal

abbrev pub invariant-loop-index : goal.invariant-loop-index
invariant-loop-index l = record {
  low : l.table.dropped ≤ l.index;
  by_name : IsIndexedTo name_hash l.table l.names l.index;
  by_field : IsIndexedTo field_hash l.table l.fields l.index;
}
