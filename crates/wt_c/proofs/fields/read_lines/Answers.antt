use Rattle.std.proofs.Common.{◌<◌, ◌^◌, length, rules}
use Rattle.wt_c.proofs.FieldLemmas.{read_more}
use Rattle.wt_c.proofs.fields.read_lines.Goals as goal

pub lines-preserved : goal.lines-preserved
lines-preserved c =
    let few : length c.lines.fields < 2 ^ 63 = search rules in
    let small : length c.lines.texts < 2 ^ 63 = search rules in
    let taken = rw c.in-Some-Ok.field-0-is at c.in-Some-Ok.ensures.line in
    let put = c.put_line.ensures in
    read_more _ _ _ _ _ c.lines.fields c.put_line.new.fields c.lines.texts c.put_line.new.texts c.lines.count c.lines.used _ _ _ c.in-Some-Ok.line.name.now c.in-Some-Ok.line.value.now
    c.lines.invariant taken c.add_capped-count.ensures c.add_capped-name_end.ensures c.add_capped-used.ensures put.fields_room few put.texts_room small put.put
