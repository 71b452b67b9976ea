use Rattle.std.proofs.Common.{◌+◌, sym, subst, arith}
use Rattle.wtp_dynamic.proofs.Storing.{none_left}
use Rattle.wtp_dynamic_encoder.specs.declared.chain.Chain.{Chain}
use Rattle.wtp_dynamic_encoder.specs.Hashing.{name_hash, field_hash}
use Rattle.wtp_dynamic_encoder.proofs.Walks.{IsIndexedTo, to_next}
use Rattle.wtp_dynamic_encoder.proofs.indexed.index_of.Goals as goal
use Rattle.wtp_dynamic_encoder.proofs.indexed.index_of.Goals.{in-Some+in_ok-append+in_ok-append-2, in_default}

pub loop-index-preserved : goal.loop-index-preserved
loop-index-preserved c =
    elim c.match-get.branch [
      | in-Some+in_ok-append+in_ok-append-2 w ↦ record {
        low = omega (arith, c.loop-index.invariant.low);
        by_name = subst (λ (x : Chain). IsIndexedTo name_hash c.args.table.now x (c.loop-index.index + 1)) (sym w.names-is)
            (to_next name_hash c.args.table.now c.loop-index.names w.append.new.self c.loop-index.index w.of-hashes.result.name (w.in-Some.name.now, w.in-Some.value.now) c.loop-index.invariant.low w.in-Some.ensures w.of-hashes.ensures.name c.loop-index.invariant.by_name
            w.in_ok-append.ensures.chain w.in_ok-append.ensures.hashes w.in_ok-append.ensures.dropped);
        by_field = subst (λ (x : Chain). IsIndexedTo field_hash c.args.table.now x (c.loop-index.index + 1)) (sym w.fields-is)
            (to_next field_hash c.args.table.now c.loop-index.fields w.append-in-Some.new.self c.loop-index.index w.of-hashes.result.field (w.in-Some.name.now, w.in-Some.value.now) c.loop-index.invariant.low w.in-Some.ensures w.of-hashes.ensures.field c.loop-index.invariant.by_field
            w.in_ok-append-2.ensures.chain w.in_ok-append-2.ensures.hashes w.in_ok-append-2.ensures.dropped);
      }
      | in_default w ↦ absurd (none_left c.args.table.now c.loop-index.index c.loop-index.invariant.low (omega arith) w.in_default.ensures)
    ]
