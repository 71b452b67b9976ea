use Rattle.wtp_dynamic_encoder.specs.Hashing.{name_hash, field_hash}
use Rattle.wtp_dynamic_encoder.proofs.Walks.{index_set}
use Rattle.wtp_dynamic_encoder.proofs.indexed.IndexedTable.set_capacity.Goals as goal

pub invariant_of-self : goal.invariant_of-self
invariant_of-self c = record {
  by_name =
      index_set name_hash c.args.capacity c.self.inside.table c.set_capacity.new.self c.self.inside.names c.drop_to.new.self c.dropped-dropped.result c.self.invariant.by_name c.in-Ok.ensures.step c.dropped-dropped.ensures.value c.drop_to.ensures.chain c.drop_to.ensures.hashes c.drop_to.ensures.dropped;
  by_field =
      index_set field_hash c.args.capacity c.self.inside.table c.set_capacity.new.self c.self.inside.fields c.drop_to-in-Ok.new.self c.dropped-dropped.result c.self.invariant.by_field c.in-Ok.ensures.step c.dropped-dropped.ensures.value c.drop_to-in-Ok.ensures.chain c.drop_to-in-Ok.ensures.hashes c.drop_to-in-Ok.ensures.dropped;
}
