use Rattle.std.proofs.Common.{◌≡◌, arith, Ok}
use Rattle.wtp_core.proofs.TellingLemmas.{telling_map}
use Rattle.wtp_core.proofs.WaitLemmas.{waits_none}
use Rattle.wtp_wire.specs.FrameSteps.{TakesFrame}
use Rattle.wtp_core.specs.declared.bytes.poll.Polled.TheVariants.{Ready}
use Rattle.wtp_wire.specs.PartialFrame.{bytes_in}
use Rattle.wtp_wire.proofs.FrameReadingLemmas.{no_items}
use Rattle.wtp_wire.proofs.FramePollLemmas.{hold, polls_as}
use Rattle.wtp_wire.proofs.WholeLemmas.{whole_polls}
use Rattle.wtp_wire.proofs.frame.reading.FrameReading.poll.Goals as goal

pub returns-in-Some : goal.returns-in-Some
returns-in-Some g c =
    let old = c.self.inside.part in
    let d = c.self.inside.skip_remaining in
    let s = g.S.AsyncRead.model c.args.source.now in
    let t = g.S.AsyncRead.model c.take_buffered_frame.new.source in
    let q = polls_as s t (Ready (Ok c.in-Some.frame)) (hold (bytes_in old) d) c.args.self.now (hold (bytes_in old) d) c.args.self.now c.self.view_is c.self.view_is
    (whole_polls s t c.in-Some.frame old d (omega arith) c.self.invariant.0 (no_items old.head (omega (arith, c.head_len.ensures))) c.in-Some.ensures.framed c.in-Some.ensures.takes) in
    record { was_unfinished = q.was_unfinished; unfinished = q.unfinished; given = q.given; polled = q.polled; waits = waits_none s t (telling_map s t (TakesFrame c.in-Some.frame) (λ a b. b.waits ≡ a.waits) (λ a b k. k.waits) c.in-Some.ensures.takes); asks = q.asks }
