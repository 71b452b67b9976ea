use Rattle.std.proofs.Common.{◌-◌, ◌++◌, length, take, sym, ◌∙◌, arith, length-append, length-take}
use Rattle.wtp_core.specs.declared.polling.fill.Interrupted.TheVariants as interrupt
use Rattle.wtp_core.specs.Fill.{Gains, InterruptIsTrue}
use borrow.Rule.Slice.PartMut.{post_of}
use Rattle.wtp_core.specs.declared.bytes.source.ReadStep.TheVariants.{Bytes}
use Rattle.wtp_core.proofs.TellingLemmas.{telling_then, telling_map}
use Rattle.wtp_core.proofs.WaitLemmas.{step_waited, waits_then, none_waits}
use Rattle.wtp_core.proofs.FillLemmas.{front_kept, front_is_stable, gains_bytes, gains_none}
use Rattle.wtp_core.proofs.polling.fill.fill.Goals as goal

pub loop-at-preserved : goal.loop-at-preserved
loop-at-preserved g c =
    let inv = c.loop-at.invariant in
    let at = c.loop-at.at in
    let buf = c.loop-at.buf in
    let part = c.poll_read.new.buf in
    let rest = post_of at (length buf - at) buf in
    record {
      front = front_kept _ at _ buf _ inv.forward (front_is_stable at buf _ inv.within) inv.front;
      forward = omega arith;
      within = omega (arith, c.in-Bytes.ensures.lengths, length-take at buf, length-append (take at buf) (part ++ rest), length-append part rest);
      waits = none_waits _ _ (waits_then 0 _ _ _ inv.waits (telling_map _ _ _ _ (λ x y q. step_waited (Bytes c.in-Bytes.n) _ x y q.1) c.in-Bytes.ensures.model));
      model = telling_then _ _ _ _ _ _ (λ x y z p q. gains_bytes (take c.args.at.now c.args.buf.now) buf part rest at c.in-Bytes.n x y z p inv.within c.in-Bytes.ensures.lengths (omega arith) q.0 q.1.0 q.1.1) inv.model c.in-Bytes.ensures.model;
    }

pub returns-in-NotReady-clause-model : goal.returns-in-NotReady-clause-model
returns-in-NotReady-clause-model g c =
    let inv = c.loop-at.invariant in
    let held = take c.args.at.now c.args.buf.now in
    let at = c.loop-at.at in
    let buf = c.loop-at.buf in
    let part = c.poll_read.new.buf in
    let rest = post_of at (length buf - at) buf in
    telling_then _ _ _ _ _ (λ x z. Gains held (take at (take at buf ++ (part ++ rest))) x z 1 × InterruptIsTrue interrupt.NotReady x z) (λ x y z p q. (gains_none held buf part rest at x y z p inv.within q.0 q.1.0 (omega (arith, q.1.1)), omega (arith, p.waits, q.1.1))) inv.model c.in-NotReady.ensures.model

pub returns-in-Reset-clause-model : goal.returns-in-Reset-clause-model
returns-in-Reset-clause-model g c =
    let inv = c.loop-at.invariant in
    let held = take c.args.at.now c.args.buf.now in
    let at = c.loop-at.at in
    let buf = c.loop-at.buf in
    let part = c.poll_read.new.buf in
    let rest = post_of at (length buf - at) buf in
    telling_then _ _ _ _ _ (λ x z. Gains held (take at (take at buf ++ (part ++ rest))) x z 1 × InterruptIsTrue interrupt.Reset x z) (λ x y z p q. (gains_none held buf part rest at x y z p inv.within q.0 (q.1.after ∙ sym q.1.before) (omega (arith, q.1.waits)), (q.1.after, sym p.ending ∙ q.1.how))) inv.model c.in-Reset.ensures.model

pub returns-in-NotConnected-clause-model : goal.returns-in-NotConnected-clause-model
returns-in-NotConnected-clause-model g c =
    let inv = c.loop-at.invariant in
    let held = take c.args.at.now c.args.buf.now in
    let at = c.loop-at.at in
    let buf = c.loop-at.buf in
    let part = c.poll_read.new.buf in
    let rest = post_of at (length buf - at) buf in
    telling_then _ _ _ _ _ (λ x z. Gains held (take at (take at buf ++ (part ++ rest))) x z 1 × InterruptIsTrue interrupt.NotConnected x z) (λ x y z p q. (gains_none held buf part rest at x y z p inv.within q.0 (q.1.after ∙ sym q.1.before) (omega (arith, q.1.waits)), (q.1.after, sym p.ending ∙ q.1.how))) inv.model c.in-NotConnected.ensures.model
