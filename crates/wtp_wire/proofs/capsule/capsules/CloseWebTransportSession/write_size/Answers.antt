use Rattle.std.proofs.Common.{arith}
use Rattle.wtp_wire.proofs.capsule.capsules.CloseWebTransportSession.write_size.Goals as goal

pub returns-clause-writable : goal.returns-clause-writable
returns-clause-writable c = rw (← c.self.view_is) (record { code = omega arith; short = c.self.invariant; text = rw (c.as_bytes-reason.ensures.value, c.as_str.ensures.value) at c.as_bytes-reason.ensures.utf8 })
