use Rattle.std.proofs.Common.{refl}
use Rattle.wtp_wire.proofs.FramePollLemmas.{reading_new}
use Rattle.wtp_wire.proofs.frame.reading.FrameReading.new.Goals as goal

pub invariant_of-result : goal.invariant_of-result
invariant_of-result c = rw c.new.ensures (reading_new, λ _. refl)
