use Rattle.std.proofs.Common.{arith}
use Rattle.wt_c.proofs.FaultlessLemmas.{id_next}
use Rattle.wt_c.proofs.settings.contains_id.Goals as goal

pub loop-setting-preserved : goal.loop-setting-preserved
loop-setting-preserved c = id_next _ _ _ _ c.loop-setting.invariant (omega arith) c.if-setting-id.false
