use Rattle.std.proofs.Common.{take, arith, length-append, length-take}
use Rattle.wtp_wire.proofs.frame.reading.part.PartialFrame.len.Goals as goal

pub returns : goal.returns
returns c =
    let hd = take c.self.inside.len c.self.inside.head in
    let p = take c.self.inside.filled c.self.inside.payload.items in
    rw (← c.self.view_is) (omega (arith, c.self.invariant.0, c.self.invariant.1, c.self.invariant.2, c.self.inside.payload.ok.0, length-append hd p, length-take c.self.inside.len c.self.inside.head, length-take c.self.inside.filled c.self.inside.payload.items))

pub overflow_add-result : goal.overflow_add-result
overflow_add-result c = omega (arith, c.self.invariant.1, c.self.invariant.2, c.self.inside.payload.ok.1, c.self.inside.payload.small)
