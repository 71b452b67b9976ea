use Rattle.wtp_dynamic_encoder.proofs.Chained.{Settling}
use Rattle.wtp_dynamic_encoder.proofs.chain.Chain.settle.Given as goal

abbrev pub invariant-loop-at : goal.invariant-loop-at
invariant-loop-at l = Settling l.self l.hash l.start l.at

abbrev pub decreases-loop-at : goal.decreases-loop-at
decreases-loop-at l = l.at
