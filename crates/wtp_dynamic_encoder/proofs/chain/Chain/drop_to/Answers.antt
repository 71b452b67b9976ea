use Rattle.std.proofs.Common.{◌+◌, refl, arith, ◌∙◌}
use Rattle.wtp_dynamic_encoder.specs.declared.chain.Chain.{Chain}
use Rattle.wtp_dynamic_encoder.proofs.Chained.{chain_pop, dropped_more}
use Rattle.wtp_dynamic_encoder.proofs.chain.Chain.drop_to.Goals as goal

pub loop-self-preserved : goal.loop-self-preserved
loop-self-preserved c =
    let new : Chain = record { heads = c.loop-self.self.heads; links = c.pop_front-oldest.new.self; dropped = c.loop-self.self.dropped + 1 } in
    record {
      chain = chain_pop c.loop-self.self new c.loop-self.invariant.chain refl c.pop_front-oldest.ensures.rest refl;
      hashes = dropped_more c.args.self.now c.loop-self.self new c.pop_front-oldest.ensures.rest refl c.loop-self.invariant.low c.loop-self.invariant.hashes;
      low = omega (arith, c.loop-self.invariant.low);
      high = omega arith;
      capacity = c.pop_front-oldest.ensures.capacity ∙ c.loop-self.invariant.capacity;
      heads = c.loop-self.invariant.heads;
    }
