use Rattle.std.proofs.Common.{arith}
use Rattle.wtp_dynamic.proofs.Ledgers.{above_step, above_stop}
use Rattle.wtp_dynamic.proofs.ledger.are_above.Goals as goal

pub returns-then-index-place : goal.returns-then-index-place
returns-then-index-place c = above_stop c.args.place c.args.sections.now.items c.loop-i.i c.index.result.now (omega (arith, c.args.sections.now.ok.0)) c.index.ensures c.if-index-place.true

pub loop-i-preserved : goal.loop-i-preserved
loop-i-preserved c =
    above_step c.args.place c.args.sections.now.items c.loop-i.i c.index.result.now c.loop-i.invariant (omega (arith, c.args.sections.now.ok.0)) c.index.ensures c.if-index-place.false
