use Rattle.wt_c.proofs.BesideLemmas.{sized_next}
use Rattle.wt_c.proofs.connections.beside.texts_len.Goals as goal

pub fields-preserved : goal.fields-preserved
fields-preserved c = sized_next c.args.list.now c.fields.left c.next.new.self c.fields.size c.add_capped-name_end.result c.add_capped-size.result c.in-Some.field.name.now c.in-Some.field.value.now c.fields.invariant c.in-Some.ensures.steps c.add_capped-name_end.ensures c.add_capped-size.ensures
