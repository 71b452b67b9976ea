use Rattle.std.proofs.Common.{refl}
use Rattle.wtp_wire.proofs.WholeLemmas.{is_framed, takes_frame}
use Rattle.wtp_wire.proofs.frame.reading.take_buffered_frame.Goals as goal

pub returns-then-take_buffered-clause-framed : goal.returns-then-take_buffered-clause-framed
returns-then-take_buffered-clause-framed g c = is_framed c.in_ok-frame.frame c.buffered.result.now c.in_ok-frame.size c.in_ok-frame.ensures.front

pub returns-then-take_buffered-clause-takes : goal.returns-then-take_buffered-clause-takes
returns-then-take_buffered-clause-takes g c =
    takes_frame c.in_ok-frame.frame c.buffered.result.now c.in_ok-frame.size (g.S.AsyncRead.model c.args.source.now) (g.S.AsyncRead.model c.take_buffered.new.self)
    c.in_ok-frame.ensures.size c.in_ok-frame.ensures.front c.buffered.ensures.shows (c.if-take_buffered.ensures.taken refl)
