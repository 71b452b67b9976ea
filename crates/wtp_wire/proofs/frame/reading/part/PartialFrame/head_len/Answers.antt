use Rattle.std.proofs.Common.{arith, length-take}
use Rattle.wtp_wire.proofs.frame.reading.part.PartialFrame.head_len.Goals as goal

pub returns : goal.returns
returns c = rw (← c.self.view_is) (omega (arith, c.self.invariant.0, c.self.invariant.1, length-take c.self.inside.len c.self.inside.head))
