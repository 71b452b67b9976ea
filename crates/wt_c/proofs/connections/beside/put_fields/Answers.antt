use Rattle.std.proofs.Common.{◌<◌, ◌^◌, length, rules}
use Rattle.wt_c.proofs.BesideLemmas.{stores_next}
use Rattle.wt_c.proofs.connections.beside.put_fields.Goals as goal

pub fields-preserved : goal.fields-preserved
fields-preserved c =
    let few : length c.fields.fields < 2 ^ 63 = search rules in
    let small : length c.fields.texts < 2 ^ 63 = search rules in
    let put = c.put_line.ensures in
    stores_next c.args.list.now c.fields.left c.next.new.self _ _ c.fields.fields c.put_line.new.fields c.fields.texts c.put_line.new.texts c.fields.count c.fields.used _ _ _ c.in-Some.field.name.now c.in-Some.field.value.now
    c.fields.invariant c.in-Some.ensures.steps c.add_capped-count.ensures c.add_capped-name_end.ensures c.add_capped-used.ensures put.fields_room few put.texts_room small put.put
