use Rattle.std.proofs.Common.{◌≡◌, length, ap, ◌∙◌}
use Rattle.wtp_wire.proofs.WritingLemmas.{both_told}
use Rattle.wtp_wire.proofs.frame.writing.FrameWriting.poll.Goals as goal

pub returns-in-Ready-Ok-clause-polled : goal.returns-in-Ready-Ok-clause-polled
returns-in-Ready-Ok-clause-polled g c =
    let head = c.self.inside.head in
    let all : c.poll.new.self.sent ≡ length c.poll.new.self.bytes = rw c.in-Ready-Ok.field-0-is at c.in-Ready-Ok.ensures.whole in
    let full : c.poll.new.self.sent ≡ length head.bytes = all ∙ ap length c.poll.ensures.on.same in
    rw (← c.self.view_is, full) (both_told c.drain.result (g.W.AsyncWrite.model c.args.sink.now) (g.W.AsyncWrite.model c.poll.new.sink) (g.W.AsyncWrite.model c.drain.new.sink)
    head.bytes c.self.inside.payload.now head.sent c.self.inside.payload_sent c.drain.new.sent c.self.invariant.0 c.self.invariant.2 (rw (c.in-Ready-Ok.field-0-is, full) at c.in-Ready-Ok.ensures.polled) c.drain.ensures.polled)
