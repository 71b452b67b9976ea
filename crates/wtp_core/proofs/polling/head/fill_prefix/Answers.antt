use Rattle.std.proofs.Common.{◌≡◌, ◌<◌, ◌≤◌, length, take, drop, ◌++◌, Err, refl, ap, arith, length-take}
use Rattle.wtp_core.specs.Fill.{Gains, InterruptIsTrue}
use Rattle.wtp_core.proofs.TellingLemmas.{telling_then}
use Rattle.wtp_core.specs.Fill.{interrupt_waits}
use Rattle.wtp_core.proofs.WaitLemmas.{waits_then, none_waits, waits_none}
use Rattle.wtp_core.proofs.FillLemmas.{Grown, grown, front_kept, gains_then, interrupt_then}
use Rattle.wtp_core.proofs.polling.head.fill_prefix.Goals as goal

pub loop-len-preserved : goal.loop-len-preserved
loop-len-preserved g c =
    let len_needed = c.len_needed-len_needed.result in
    let held = take c.loop-len.len c.loop-len.buf in
    let most = g.met.H.Prefix.need_most held in
    let same : len_needed ≡ g.H.Prefix.len_needed held = c.len_needed-len_needed.ensures in
    let room : len_needed ≤ length c.loop-len.buf = omega (arith, most, same, c.requires.room, c.loop-len.auto.buf) in
    let full : c.fill.new.at ≡ length c.fill.new.buf = c.in-Ok.ensures.lengths in
    let size : length c.fill.new.buf ≡ length (take len_needed c.loop-len.buf) = c.fill.auto.buf in
    let at_is : c.fill.new.at ≡ len_needed = omega (arith, length-take len_needed c.loop-len.buf) in
    let w : Grown c.loop-len.len c.fill.new.at len_needed c.loop-len.buf c.fill.new.buf = grown _ _ _ _ _ c.fill.ensures.forward (omega arith) room size c.fill.ensures.front in
    record {
      within = let (more, is) = w.extends in omega (arith, g.met.H.Prefix.need_grows held more, ap g.H.Prefix.len_needed is, at_is, same);
      forward = let before = c.loop-len.invariant.forward in omega (arith, c.fill.ensures.forward);
      waits = none_waits _ _ (waits_then 0 _ _ _ c.loop-len.invariant.waits c.in-Ok.ensures.waits);
      front = front_kept _ c.loop-len.len _ c.loop-len.buf _ c.loop-len.invariant.forward w.front c.loop-len.invariant.front;
      stays = λ whole.
          let was = c.loop-len.invariant.stays whole in
          let held_is : take c.loop-len.len c.loop-len.buf ≡ take c.args.len.now c.args.buf.now = rw (was.0, was.1) refl in
          absurd (omega (arith, ap g.H.Prefix.len_needed held_is, was.0, same, whole, c.if-len-len_needed.false));
      model = telling_then _ _ _ _ _ _ (λ x y z p q. gains_then _ _ _ _ _ x y z 0 p q w.held w.shown) c.loop-len.invariant.model c.in-Ok.ensures.model;
    }

pub returns-in-Err-clause-waits : goal.returns-in-Err-clause-waits
returns-in-Err-clause-waits g c = waits_then (interrupt_waits {U = Unit {0}} (Err c.in-Err.interrupt)) _ _ _ c.loop-len.invariant.waits c.in-Err.ensures.waits

pub returns-then-len-len_needed-clause-waits : goal.returns-then-len-len_needed-clause-waits
returns-then-len-len_needed-clause-waits g c = waits_none _ _ c.loop-len.invariant.waits

pub returns-in-Err-clause-cut : goal.returns-in-Err-clause-cut
returns-in-Err-clause-cut g c =
    let len_needed = c.len_needed-len_needed.result in
    let held = take c.loop-len.len c.loop-len.buf in
    let most = g.met.H.Prefix.need_most held in
    let same : len_needed ≡ g.H.Prefix.len_needed held = c.len_needed-len_needed.ensures in
    let room : len_needed ≤ length c.loop-len.buf = omega (arith, most, same, c.requires.room, c.loop-len.auto.buf) in
    let part : c.fill.new.at < length c.fill.new.buf = c.in-Err.ensures.lengths in
    let size : length c.fill.new.buf ≡ length (take len_needed c.loop-len.buf) = c.fill.auto.buf in
    let below : c.fill.new.at < len_needed = omega (arith, length-take len_needed c.loop-len.buf) in
    let w : Grown c.loop-len.len c.fill.new.at len_needed c.loop-len.buf c.fill.new.buf = grown _ _ _ _ _ c.fill.ensures.forward (omega arith) room size c.fill.ensures.front in
    let (more, is) = w.extends in
    omega (arith, g.met.H.Prefix.need_grows held more, ap g.H.Prefix.len_needed is, below, same)

pub returns-in-Err-clause-model : goal.returns-in-Err-clause-model
returns-in-Err-clause-model g c =
    let len_needed = c.len_needed-len_needed.result in
    let held = take c.loop-len.len c.loop-len.buf in
    let most = g.met.H.Prefix.need_most held in
    let same : len_needed ≡ g.H.Prefix.len_needed held = c.len_needed-len_needed.ensures in
    let room : len_needed ≤ length c.loop-len.buf = omega (arith, most, same, c.requires.room, c.loop-len.auto.buf) in
    let part : c.fill.new.at < length c.fill.new.buf = c.in-Err.ensures.lengths in
    let size : length c.fill.new.buf ≡ length (take len_needed c.loop-len.buf) = c.fill.auto.buf in
    let below : c.fill.new.at < len_needed = omega (arith, length-take len_needed c.loop-len.buf) in
    let w : Grown c.loop-len.len c.fill.new.at len_needed c.loop-len.buf c.fill.new.buf = grown _ _ _ _ _ c.fill.ensures.forward (omega arith) room size c.fill.ensures.front in
    telling_then _ _ _ _ _ (λ x z. Gains (take c.args.len.now c.args.buf.now) (take c.fill.new.at (c.fill.new.buf ++ drop len_needed c.loop-len.buf)) x z 1 × InterruptIsTrue c.in-Err.interrupt x z) (λ x y z p q. (gains_then _ _ _ _ _ x y z 1 p q.0 w.held w.shown, interrupt_then c.in-Err.interrupt x y z p.ending p.waits q.1)) c.loop-len.invariant.model c.in-Err.ensures.model

pub returns-in-Err-clause-front : goal.returns-in-Err-clause-front
returns-in-Err-clause-front g c =
    let len_needed = c.len_needed-len_needed.result in
    let held = take c.loop-len.len c.loop-len.buf in
    let most = g.met.H.Prefix.need_most held in
    let same : len_needed ≡ g.H.Prefix.len_needed held = c.len_needed-len_needed.ensures in
    let room : len_needed ≤ length c.loop-len.buf = omega (arith, most, same, c.requires.room, c.loop-len.auto.buf) in
    let part : c.fill.new.at < length c.fill.new.buf = c.in-Err.ensures.lengths in
    let size : length c.fill.new.buf ≡ length (take len_needed c.loop-len.buf) = c.fill.auto.buf in
    let w : Grown c.loop-len.len c.fill.new.at len_needed c.loop-len.buf c.fill.new.buf = grown _ _ _ _ _ c.fill.ensures.forward (omega (arith, length-take len_needed c.loop-len.buf)) room size c.fill.ensures.front in
    front_kept _ c.loop-len.len _ c.loop-len.buf _ c.loop-len.invariant.forward w.front c.loop-len.invariant.front

pub returns-in-Err-clause-stays : goal.returns-in-Err-clause-stays
returns-in-Err-clause-stays g c = λ whole.
    let was = c.loop-len.invariant.stays whole in
    let same : c.len_needed-len_needed.result ≡ g.H.Prefix.len_needed (take c.loop-len.len c.loop-len.buf) = c.len_needed-len_needed.ensures in
    let held_is : take c.loop-len.len c.loop-len.buf ≡ take c.args.len.now c.args.buf.now = rw (was.0, was.1) refl in
    absurd (omega (arith, ap g.H.Prefix.len_needed held_is, was.0, same, whole, c.if-len-len_needed.false))

pub returns-then-len-len_needed-clause-stays : goal.returns-then-len-len_needed-clause-stays
returns-then-len-len_needed-clause-stays g c = c.loop-len.invariant.stays

pub returns-then-len-len_needed-clause-front : goal.returns-then-len-len_needed-clause-front
returns-then-len-len_needed-clause-front g c = c.loop-len.invariant.front

pub returns-then-len-len_needed-clause-model : goal.returns-then-len-len_needed-clause-model
returns-then-len-len_needed-clause-model g c = c.loop-len.invariant.model

pub returns-then-len-len_needed-clause-whole : goal.returns-then-len-len_needed-clause-whole
returns-then-len-len_needed-clause-whole g c = omega (arith, c.loop-len.invariant.within, c.len_needed-len_needed.ensures, c.if-len-len_needed.true)
