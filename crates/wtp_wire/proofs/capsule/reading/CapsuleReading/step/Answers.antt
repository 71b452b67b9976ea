use Rattle.std.proofs.Common.{refl, arith}
use Rattle.wtp_wire.proofs.CapsuleReadingLemmas.{part_new, room_new}
use Rattle.wtp_wire.proofs.capsule.reading.CapsuleReading.step.Goals as goal

pub invariant_of-self : goal.invariant_of-self
invariant_of-self c = let s = c.in-Skipping.ensures.advanced in (c.advance.ensures.long, c.advance.ensures.fits, part_new _ _ _ s.no_head s.no_value, c.advance.ensures.room)

pub invariant_of-self-in-Complete : goal.invariant_of-self-in-Complete
invariant_of-self-in-Complete c = (c.advance.ensures.long, omega arith, part_new _ _ _ refl (rw c.replace-value.ensures.after c.new.ensures.items), room_new _ _ _ refl)
