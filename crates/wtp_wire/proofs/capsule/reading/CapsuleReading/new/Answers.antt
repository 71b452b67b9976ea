use Rattle.std.proofs.Common.{arith, refl}
use Rattle.wtp_wire.proofs.CapsuleReadingLemmas.{part_new, room_new}
use Rattle.wtp_wire.proofs.capsule.reading.CapsuleReading.new.Goals as goal

pub invariant_of-result : goal.invariant_of-result
invariant_of-result c = (refl, omega arith, part_new _ _ 0 refl c.new.ensures.items, room_new _ _ _ refl)
