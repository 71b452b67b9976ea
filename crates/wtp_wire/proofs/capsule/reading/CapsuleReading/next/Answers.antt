use Rattle.wtp_wire.proofs.CapsuleReadingLemmas.{given_later}
use Rattle.wtp_wire.proofs.capsule.reading.CapsuleReading.next.Goals as goal

pub returns-in-Some : goal.returns-in-Some
returns-in-Some c = record { given = given_later _ _ _ _ _ _ _ c.loop-result.invariant c.in-Some.ensures }
