use Rattle.std.proofs.Common.{arith}
use Rattle.wtp_wire.proofs.CloseLemmas.{some_text}
use Rattle.wtp_wire.proofs.capsule.capsules.CloseWebTransportSession.with_capsule.Goals as goal

pub returns-in-Err : goal.returns-in-Err
returns-in-Err c = (
  (c.in-Some.error_code, c.in-Some.text.now),
  rw c.payload.ensures at c.in-Some.ensures.parts,
  some_text _ 0 (omega (arith, c.in-Err.ensures.full, c.new-reason.ensures.len)),
)
