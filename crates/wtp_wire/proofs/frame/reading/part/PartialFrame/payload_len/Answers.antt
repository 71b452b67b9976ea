use Rattle.std.proofs.Common.{arith, length-take}
use Rattle.wtp_wire.proofs.frame.reading.part.PartialFrame.payload_len.Goals as goal

pub returns : goal.returns
returns c = rw (← c.self.view_is) (omega (arith, c.self.invariant.2, c.self.inside.payload.ok.0, length-take c.self.inside.filled c.self.inside.payload.items))
