use Rattle.std.proofs.Common.{arith}
use Rattle.wt_inspect.proofs.ViewLemmas.{views_end, views_next}
use Rattle.wt_inspect.proofs.connection.Connection.views_of.Goals as goal

pub loop-part-preserved : goal.loop-part-preserved
loop-part-preserved c =
    views_next c.args.self.now c.args.parts.now c.loop-part.part-index _ c.loop-part.views.items c.add_part.new.views.items (omega arith) c.loop-part.invariant c.in_ok-add_part.ensures

pub returns : goal.returns
returns c =
    views_end c.args.self.now c.args.parts.now c.loop-part.part-index c.loop-part.views.items (omega arith) c.loop-part.invariant
