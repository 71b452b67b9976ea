use Rattle.std.proofs.Common.{◌≡◌, ℕ, ◌≤◌, List, [], take, ◌∙◌, arith, length-take}
use Rattle.std.proofs.lemmas.List.{take-take}
use Rattle.wtp_core.proofs.NeedLemmas.{number_at-cut, number_at-whole}
use Rattle.wtp_core.specs.declared.bytes.error.IoReadError.{IoReadError}
use Rattle.wtp_core.proofs.WaitLemmas.{interrupted_waits}
use Rattle.wtp_core.proofs.GetLemmas.{interrupted_plain, interrupted_varint_told, interrupted_varint_given, whole_varint_told, whole_varint_given, paced_whole, paced_interrupted}
use Rattle.wtp_core.proofs.bytes.get.GetVarint.poll.Goals as goal

-- the bytes held after the poll start with those held before
held_front : (m n : ℕ) (buf new : List ℕ) → m ≤ n → take m new ≡ take m buf → take m (take n new) ≡ take m buf
held_front m n buf new l e = take-take m n new l ∙ e

pub returns-in-Err-clause-was_cut : goal.returns-in-Err-clause-was_cut
returns-in-Err-clause-was_cut g c = rw (← c.self.view_is) (number_at-cut (take c.self.inside.len c.self.inside.bytes) c.self.invariant.1)

pub returns-in-Err-clause-cut : goal.returns-in-Err-clause-cut
returns-in-Err-clause-cut g c = number_at-cut (take c.fill_prefix.new.len c.fill_prefix.new.buf) (omega (arith, c.in-Err.ensures.cut, length-take c.fill_prefix.new.len c.fill_prefix.new.buf))

pub returns-in-Err-clause-waits : goal.returns-in-Err-clause-waits
returns-in-Err-clause-waits g c = rw (interrupted_plain _ _ _ c.interrupt_result.ensures) (interrupted_waits ℕ IoReadError (Unit {0}) (λ f. f) c.in-Err.interrupt c.fill_prefix.new.len _ _ c.in-Err.ensures.waits)

pub returns-in-Err-clause-given : goal.returns-in-Err-clause-given
returns-in-Err-clause-given g c = rw (interrupted_plain _ _ _ c.interrupt_result.ensures, ← c.self.view_is) (interrupted_varint_given c.in-Err.interrupt c.fill_prefix.new.len c.self.inside.len _ (take c.fill_prefix.new.len c.fill_prefix.new.buf)
    (held_front c.self.inside.len c.fill_prefix.new.len c.self.inside.bytes c.fill_prefix.new.buf c.fill_prefix.ensures.forward c.fill_prefix.ensures.front))

pub returns-in-Err-clause-polled : goal.returns-in-Err-clause-polled
returns-in-Err-clause-polled g c = rw (interrupted_plain _ _ _ c.interrupt_result.ensures, ← c.self.view_is) (interrupted_varint_told (g.S.AsyncRead.model c.args.source.now) (g.S.AsyncRead.model c.fill_prefix.new.source) c.in-Err.interrupt c.fill_prefix.new.len
    (take c.self.inside.len c.self.inside.bytes) (take c.fill_prefix.new.len c.fill_prefix.new.buf)
    (omega (arith, c.fill_prefix.ensures.room, length-take c.fill_prefix.new.len c.fill_prefix.new.buf)) (omega (arith, c.in-Err.ensures.cut, length-take c.fill_prefix.new.len c.fill_prefix.new.buf)) c.in-Err.ensures.model)

pub unreachable-requires : goal.unreachable-requires
unreachable-requires g c =
    let (v, is) = number_at-whole (take c.fill_prefix.new.len c.fill_prefix.new.buf) (omega (arith, c.in-Ok.ensures.whole, c.fill_prefix.ensures.room, length-take c.fill_prefix.new.len c.fill_prefix.new.buf)) in
    cc (is, c.in_default.ensures.found)

pub returns-clause-was_cut : goal.returns-clause-was_cut
returns-clause-was_cut g c = rw (← c.self.view_is) (number_at-cut (take c.self.inside.len c.self.inside.bytes) c.self.invariant.1)

pub returns-clause-cut : goal.returns-clause-cut
returns-clause-cut g c = number_at-cut [] (omega arith)

pub returns-clause-given : goal.returns-clause-given
returns-clause-given g c = rw (← c.self.view_is) (whole_varint_given _ _ c.self.inside.len _ (take c.fill_prefix.new.len c.fill_prefix.new.buf)
    (held_front c.self.inside.len c.fill_prefix.new.len c.self.inside.bytes c.fill_prefix.new.buf c.fill_prefix.ensures.forward c.fill_prefix.ensures.front)
    (omega (arith, c.in-Ok.ensures.whole, c.fill_prefix.ensures.room, length-take c.fill_prefix.new.len c.fill_prefix.new.buf)) c.in-Some.ensures.found)

pub returns-clause-polled : goal.returns-clause-polled
returns-clause-polled g c = rw (← c.self.view_is) (whole_varint_told (g.S.AsyncRead.model c.args.source.now) (g.S.AsyncRead.model c.fill_prefix.new.source) _ _
    (take c.self.inside.len c.self.inside.bytes) (take c.fill_prefix.new.len c.fill_prefix.new.buf)
    (omega (arith, c.in-Ok.ensures.whole, c.fill_prefix.ensures.room, length-take c.fill_prefix.new.len c.fill_prefix.new.buf)) c.in-Some.ensures.found c.in-Ok.ensures.model)

pub returns-in-Err-clause-paced : goal.returns-in-Err-clause-paced
returns-in-Err-clause-paced g c = paced_interrupted (g.S.AsyncRead.model c.args.source.now) (g.S.AsyncRead.model c.fill_prefix.new.source) c.in-Err.interrupt _ _ c.in-Err.ensures.model

pub returns-clause-paced : goal.returns-clause-paced
returns-clause-paced g c = paced_whole (g.S.AsyncRead.model c.args.source.now) (g.S.AsyncRead.model c.fill_prefix.new.source) _ _ c.in-Ok.ensures.model
