use Rattle.std.proofs.Common.{rules, ◌<◌, length}
use Rattle.wtp_dynamic.specs.Table.{insert_count}
use Rattle.wt_inspection.proofs.InsertionLemmas.{one_more}
use Rattle.wt_inspection.proofs.insertions.Insertions.table_at.Goals as goal

pub loop-i-preserved : goal.loop-i-preserved
loop-i-preserved c =
    let some : c.loop-i.i < length c.args.self.now.bytes = search rules in
    let fewer : insert_count c.loop-i.stream.0 < c.args.count = search rules in
    one_more c.args.self.now.limit c.args.count c.loop-i.i c.args.self.now.bytes _ _ _ _ _ c.loop-i.invariant some (search rules) fewer c.in-Ok.ensures.read
