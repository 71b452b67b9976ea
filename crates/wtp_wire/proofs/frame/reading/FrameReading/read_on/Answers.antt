use Rattle.std.proofs.Common.{[], refl, sym, ap, arith, Ok, Err}
use Rattle.wtp_core.specs.declared.bytes.poll.Polled.TheVariants.{Ready, NoMemory}
use Rattle.wtp_core.specs.Source.{HasModel}
use Rattle.wtp_wire.specs.declared.frame.head.Announcement.{Announcement}
use Rattle.wtp_wire.specs.declared.frame.reading.part.ReadInterrupted.TheVariants as stopped
use Rattle.wtp_wire.specs.PartialFrame.{Part, bytes_in}
use Rattle.wtp_wire.specs.FrameSteps.{StopMoves}
use Rattle.wtp_wire.proofs.FramePollLemmas.{hold, reading_new, can_answer, answer_polls, interrupted_polls, no_memory_polls, polls_as}
use Rattle.wtp_core.specs.Polled.{polled_waits}
use Rattle.wtp_core.proofs.WaitLemmas.{none_waits, waits_then}
use Rattle.wtp_wire.proofs.FrameSkipLemmas.{due_polls, skip_polls}
use Rattle.wtp_wire.proofs.FramePollLemmas.{frame_interrupted_waits}
use Rattle.wtp_wire.proofs.frame.reading.FrameReading.read_on.Goals as goal

pub returns-then-self-gt0 : goal.returns-then-self-gt0
returns-then-self-gt0 g c =
    let old = c.self.inside.part in
    let d = c.self.inside.skip_remaining in
    let s = g.S.AsyncRead.model c.args.source.now in
    let t = g.S.AsyncRead.model c.skip_payload.new.source in
    let q = polls_as s t c.skip_payload.result (hold (bytes_in old) d) c.args.self.now (hold (bytes_in old) c.skip_payload.new.skip_remaining) (hold (bytes_in old) c.skip_payload.new.skip_remaining) c.self.view_is refl
    (due_polls s t c.skip_payload.result old d c.skip_payload.new.skip_remaining c.if-self-gt0.true c.self.invariant.0 (c.self.invariant.1 c.if-self-gt0.true) c.skip_payload.ensures.plain c.skip_payload.ensures.skipped) in
    record { was_unfinished = q.was_unfinished; unfinished = q.unfinished; given = q.given; polled = q.polled; waits = c.skip_payload.ensures.waits; asks = q.asks }

pub returns-in-Err-Source : goal.returns-in-Err-Source
returns-in-Err-Source g c =
    let old = c.self.inside.part in
    let d = c.self.inside.skip_remaining in
    let new = c.advance.new.self in
    let s = g.S.AsyncRead.model c.args.source.now in
    let t = g.S.AsyncRead.model c.advance.new.source in
    let interrupt = c.in-Err-Source.why in
    let moves : HasModel s t (λ a b. StopMoves {U = Announcement} (Err (stopped.Source interrupt)) (bytes_in old) (bytes_in new) a b) =
    (rw c.in-Err-Source.field-0-is at c.in-Err-Source.ensures.moves) in
    let q = polls_as s t c.interrupt_result.result (hold (bytes_in old) d) c.args.self.now (hold (bytes_in new) d) (hold (bytes_in new) d) c.self.view_is refl
    (interrupted_polls s t interrupt c.len.result c.interrupt_result.result old new d (omega arith) c.len.ensures c.interrupt_result.ensures c.self.invariant.0 (rw c.in-Err-Source.field-0-is at c.in-Err-Source.ensures.keeps) c.advance.ensures.grew moves) in
    record { was_unfinished = q.was_unfinished; unfinished = q.unfinished; given = q.given; polled = q.polled; waits = frame_interrupted_waits interrupt c.len.result s t c.interrupt_result.result c.interrupt_result.ensures (rw c.in-Err-Source.field-0-is at c.in-Err-Source.ensures.waits); asks = q.asks }

pub returns-in-Err-NoMemory : goal.returns-in-Err-NoMemory
returns-in-Err-NoMemory g c =
    let old = c.self.inside.part in
    let d = c.self.inside.skip_remaining in
    let new = c.advance.new.self in
    let s = g.S.AsyncRead.model c.args.source.now in
    let t = g.S.AsyncRead.model c.advance.new.source in
    let moves : HasModel s t (λ a b. StopMoves {U = Announcement} (Err stopped.NoMemory) (bytes_in old) (bytes_in new) a b) =
    (rw c.in-Err-NoMemory.field-0-is at c.in-Err-NoMemory.ensures.moves) in
    let k = rw c.in-Err-NoMemory.field-0-is at c.in-Err-NoMemory.ensures.keeps in
    let q = polls_as s t NoMemory (hold (bytes_in old) d) c.args.self.now (hold (bytes_in new) d) (hold (bytes_in new) d) c.self.view_is refl
    (no_memory_polls s t old new d (omega arith) c.self.invariant.0 k.0 k.1 c.advance.ensures.grew moves) in
    record { was_unfinished = q.was_unfinished; unfinished = q.unfinished; given = q.given; polled = q.polled; waits = rw c.in-Err-NoMemory.field-0-is at c.in-Err-NoMemory.ensures.waits; asks = q.asks }

pub invariant_of-self-in-Skip-1 : goal.invariant_of-self-in-Skip-1
invariant_of-self-in-Skip-1 g c = rw c.take_payload-payload.ensures.empty (reading_new, λ _. refl)

pub answer-requires : goal.answer-requires
answer-requires g c = rw c.take_payload-payload.ensures.payload (can_answer c.in-Ok.announcement c.advance.new.self c.in-Ok.ensures.keeps c.in_default.not-Skip)

pub invariant_of-self-in_default : goal.invariant_of-self-in_default
invariant_of-self-in_default g c = rw c.take_payload-payload.ensures.empty (reading_new, λ _. refl)

pub returns-in-Skip : goal.returns-in-Skip
returns-in-Skip g c =
    let old = c.self.inside.part in
    let d = c.self.inside.skip_remaining in
    let new = c.advance.new.self in
    let s = g.S.AsyncRead.model c.args.source.now in
    let t = g.S.AsyncRead.model c.advance.new.source in
    let u = g.S.AsyncRead.model c.skip_payload-in-Skip.new.source in
    let m = c.in-Skip.size in
    let d' = c.skip_payload-in-Skip.new.skip_remaining in
    let moves : HasModel s t (λ a b. StopMoves (Ok c.in-Ok.announcement) (bytes_in old) (bytes_in new) a b) =
    c.in-Ok.ensures.moves in
    let q = polls_as s u c.skip_payload-in-Skip.result (hold (bytes_in old) d) c.args.self.now (hold [] d') (hold (bytes_in c.take_payload-payload.new.self) d') c.self.view_is
    (ap (λ (x : Part). hold (bytes_in x) d') (sym c.take_payload-payload.ensures.empty))
    (skip_polls s t u c.skip_payload-in-Skip.result old new m d d' (omega arith) c.self.invariant.0 (rw c.in-Skip.is at c.in-Ok.ensures.keeps) c.advance.ensures.grew moves c.skip_payload-in-Skip.ensures.plain c.skip_payload-in-Skip.ensures.skipped) in
    record { was_unfinished = q.was_unfinished; unfinished = q.unfinished; given = q.given; polled = q.polled; waits = waits_then (polled_waits c.skip_payload-in-Skip.result) s t u (none_waits s t c.in-Ok.ensures.waits) c.skip_payload-in-Skip.ensures.waits; asks = q.asks }

pub returns-in_default : goal.returns-in_default
returns-in_default g c =
    let old = c.self.inside.part in
    let d = c.self.inside.skip_remaining in
    let new = c.advance.new.self in
    let s = g.S.AsyncRead.model c.args.source.now in
    let t = g.S.AsyncRead.model c.advance.new.source in
    let moves : HasModel s t (λ a b. StopMoves (Ok c.in-Ok.announcement) (bytes_in old) (bytes_in new) a b) =
    c.in-Ok.ensures.moves in
    let q = polls_as s t (Ready c.answer.result) (hold (bytes_in old) d) c.args.self.now (hold [] d) (hold (bytes_in c.take_payload-payload.new.self) d) c.self.view_is
    (ap (λ (x : Part). hold (bytes_in x) d) (sym c.take_payload-payload.ensures.empty))
    (answer_polls s t c.in-Ok.announcement c.answer.result old new d (omega arith) c.self.invariant.0 (rw c.take_payload-payload.ensures.payload at c.answer.ensures) c.in-Ok.ensures.keeps c.advance.ensures.grew moves) in
    record { was_unfinished = q.was_unfinished; unfinished = q.unfinished; given = q.given; polled = q.polled; waits = c.in-Ok.ensures.waits; asks = q.asks }
