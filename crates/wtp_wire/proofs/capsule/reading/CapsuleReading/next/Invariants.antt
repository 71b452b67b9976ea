use Rattle.std.proofs.Common.{length}
use Rattle.wtp_wire.specs.CapsuleStream.{Joins}
use Rattle.wtp_wire.proofs.capsule.reading.CapsuleReading.next.Given as goal

abbrev pub invariant-loop-result : goal.invariant-loop-result
invariant-loop-result l = Joins l.fn.self l.fn.bytes.now l.self l.bytes.now

abbrev pub decreases-loop-result : goal.decreases-loop-result
decreases-loop-result l = length l.bytes.now
