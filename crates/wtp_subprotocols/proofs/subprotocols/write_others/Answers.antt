use Rattle.wtp_subprotocols.proofs.StringLemmas.{other_step}
use Rattle.wtp_subprotocols.proofs.subprotocols.write_others.Goals as goal

pub loop-other-preserved : goal.loop-other-preserved
loop-other-preserved c = other_step _ _ _ _ _ _ c.loop-other-test.true c.in_ok-write_other.ensures c.loop-other.invariant
