use Rattle.std.proofs.Common.{arith, ◌∙◌}
use Rattle.wtp_dynamic_encoder.proofs.Chained.{copied_more}
use Rattle.wtp_dynamic_encoder.proofs.chain.Chain.grown.Goals as goal

pub loop-i-preserved : goal.loop-i-preserved
loop-i-preserved c = record {
  chain = c.push.ensures.chain;
  hashes = c.push.ensures.hashes ∙ copied_more c.args.self.now c.loop-i.i c.index.result.now _ (omega arith) c.index.ensures c.loop-i.invariant.hashes;
  dropped = c.push.ensures.dropped ∙ c.loop-i.invariant.dropped;
  room = omega (arith, c.push.ensures.capacity, c.loop-i.invariant.room);
  some = omega (arith, c.push.ensures.buckets, c.loop-i.invariant.some);
}
