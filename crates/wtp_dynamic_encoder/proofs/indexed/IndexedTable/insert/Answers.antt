use Rattle.wtp_dynamic_encoder.specs.Hashing.{name_hash, field_hash}
use Rattle.wtp_dynamic_encoder.proofs.Walks.{index_same, index_insert}
use Rattle.wtp_dynamic_encoder.proofs.indexed.IndexedTable.insert.Goals as goal

pub invariant_of-self-in-Ok : goal.invariant_of-self-in-Ok
invariant_of-self-in-Ok c = record {
  by_name =
      index_insert name_hash c.args.entry c.self.inside.table c.insert.new.self c.reserve.new.self c.advance.new.self c.dropped-dropped.result c.args.hashes.name
      (index_same name_hash c.self.inside.table c.self.inside.names c.reserve.new.self c.self.invariant.by_name c.reserve.ensures.chain c.reserve.ensures.hashes c.reserve.ensures.dropped)
      c.in-Ok.ensures.step c.dropped-dropped.ensures.value c.advance.ensures.chain c.requires.name c.advance.ensures.hashes c.advance.ensures.dropped;
  by_field =
      index_insert field_hash c.args.entry c.self.inside.table c.insert.new.self c.reserve-2.new.self c.advance-in-Ok.new.self c.dropped-dropped.result c.args.hashes.field
      (index_same field_hash c.self.inside.table c.self.inside.fields c.reserve-2.new.self c.self.invariant.by_field c.reserve-2.ensures.chain c.reserve-2.ensures.hashes c.reserve-2.ensures.dropped)
      c.in-Ok.ensures.step c.dropped-dropped.ensures.value c.advance-in-Ok.ensures.chain c.requires.field c.advance-in-Ok.ensures.hashes c.advance-in-Ok.ensures.dropped;
}
