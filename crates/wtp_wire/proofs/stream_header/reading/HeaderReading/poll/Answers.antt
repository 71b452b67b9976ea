use Rattle.std.proofs.Common.{◌≡◌, ℕ, ◌≤◌, List, [], take, ◌∙◌, arith, length-take}
use Rattle.std.proofs.lemmas.List.{take-take}
use Rattle.wtp_core.specs.VarintLenNeeded.{varint_need_range}
use Rattle.wtp_wire.specs.HeaderNeed.{header_need_is}
use Rattle.wtp_core.proofs.GetLemmas.{paced_whole, paced_interrupted}
use Rattle.wtp_wire.proofs.HeaderPollLemmas.{header_cut, interrupted_header, whole_told, whole_given, interrupted_told, interrupted_given, asks_interrupted}
use Rattle.wtp_wire.proofs.stream_header.reading.HeaderReading.poll.Goals as goal

-- the bytes held after the poll start with those held before
held_front : (m n : ℕ) (buf new : List ℕ) → m ≤ n → take m new ≡ take m buf → take m (take n new) ≡ take m buf
held_front m n buf new l e = take-take m n new l ∙ e

pub returns-in-Err-clause-was_cut : goal.returns-in-Err-clause-was_cut
returns-in-Err-clause-was_cut g c = rw (← c.self.view_is) (header_cut (take c.self.inside.len c.self.inside.bytes) c.self.invariant.1)

pub returns-in-Err-clause-cut : goal.returns-in-Err-clause-cut
returns-in-Err-clause-cut g c = header_cut (take c.fill_prefix.new.len c.fill_prefix.new.buf) (omega (arith, c.in-Err.ensures.cut, length-take c.fill_prefix.new.len c.fill_prefix.new.buf))

pub returns-in-Err-clause-given : goal.returns-in-Err-clause-given
returns-in-Err-clause-given g c = rw (interrupted_header _ _ _ c.interrupt_result.ensures, ← c.self.view_is) (interrupted_given c.in-Err.interrupt c.fill_prefix.new.len c.self.inside.len _ (take c.fill_prefix.new.len c.fill_prefix.new.buf)
    (held_front c.self.inside.len c.fill_prefix.new.len c.self.inside.bytes c.fill_prefix.new.buf c.fill_prefix.ensures.forward c.fill_prefix.ensures.front))

pub returns-in-Err-clause-polled : goal.returns-in-Err-clause-polled
returns-in-Err-clause-polled g c = rw (interrupted_header _ _ _ c.interrupt_result.ensures, ← c.self.view_is) (interrupted_told (g.S.AsyncRead.model c.args.source.now) (g.S.AsyncRead.model c.fill_prefix.new.source) c.in-Err.interrupt c.fill_prefix.new.len
    (take c.self.inside.len c.self.inside.bytes) (take c.fill_prefix.new.len c.fill_prefix.new.buf)
    (omega (arith, c.fill_prefix.ensures.room, length-take c.fill_prefix.new.len c.fill_prefix.new.buf)) (omega (arith, c.in-Err.ensures.cut, length-take c.fill_prefix.new.len c.fill_prefix.new.buf)) c.in-Err.ensures.model)

pub returns-in-Err-clause-asks : goal.returns-in-Err-clause-asks
returns-in-Err-clause-asks g c = asks_interrupted (g.S.AsyncRead.model c.args.source.now) (g.S.AsyncRead.model c.fill_prefix.new.source) c.in-Err.interrupt
    (take c.self.inside.len c.self.inside.bytes) (take c.fill_prefix.new.len c.fill_prefix.new.buf) (omega (arith, c.in-Err.ensures.cut, length-take c.fill_prefix.new.len c.fill_prefix.new.buf)) c.in-Err.ensures.model

pub invariant_of-self-2 : goal.invariant_of-self-2
invariant_of-self-2 g c = (omega arith, omega (arith, header_need_is [], (varint_need_range []).0))

pub returns-clause-was_cut : goal.returns-clause-was_cut
returns-clause-was_cut g c = rw (← c.self.view_is) (header_cut (take c.self.inside.len c.self.inside.bytes) c.self.invariant.1)

pub returns-clause-cut : goal.returns-clause-cut
returns-clause-cut g c = header_cut [] (omega (arith, header_need_is [], (varint_need_range []).0))

pub returns-clause-given : goal.returns-clause-given
returns-clause-given g c = rw (← c.self.view_is) (whole_given _ c.self.inside.len _ (take c.fill_prefix.new.len c.fill_prefix.new.buf)
    (held_front c.self.inside.len c.fill_prefix.new.len c.self.inside.bytes c.fill_prefix.new.buf c.fill_prefix.ensures.forward c.fill_prefix.ensures.front) c.read_whole-answer.ensures)

pub returns-clause-polled : goal.returns-clause-polled
returns-clause-polled g c = rw (← c.self.view_is) (whole_told (g.S.AsyncRead.model c.args.source.now) (g.S.AsyncRead.model c.fill_prefix.new.source) c.read_whole-answer.result
    (take c.self.inside.len c.self.inside.bytes) (take c.fill_prefix.new.len c.fill_prefix.new.buf) c.read_whole-answer.ensures c.in-Ok.ensures.model)

pub returns-in-Err-clause-paced : goal.returns-in-Err-clause-paced
returns-in-Err-clause-paced g c = paced_interrupted (g.S.AsyncRead.model c.args.source.now) (g.S.AsyncRead.model c.fill_prefix.new.source) c.in-Err.interrupt _ _ c.in-Err.ensures.model

pub returns-clause-paced : goal.returns-clause-paced
returns-clause-paced g c = paced_whole (g.S.AsyncRead.model c.args.source.now) (g.S.AsyncRead.model c.fill_prefix.new.source) _ _ c.in-Ok.ensures.model
