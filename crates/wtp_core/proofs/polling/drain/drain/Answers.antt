use Rattle.std.proofs.Common.{arith, length-drop}
use Rattle.std.proofs.lemmas.List.{take_rest}
use Rattle.wtp_core.proofs.TellingLemmas.{telling_then}
use Rattle.wtp_core.proofs.DrainLemmas.{took_more, took_none}
use Rattle.wtp_core.proofs.polling.drain.drain.Goals as goal

pub loop-sent-preserved : goal.loop-sent-preserved
loop-sent-preserved g c =
    let inv = c.loop-sent.invariant in
    record {
      forward = omega arith;
      within = omega (arith, c.in-Bytes.ensures.lengths, length-drop c.loop-sent.sent c.args.bytes.now);
      model = telling_then _ _ _ _ _ _ (λ x y z p q. took_more c.args.bytes.now c.args.sent.now c.loop-sent.sent c.in-Bytes.n x y z inv.forward inv.within p q) inv.model (rw (take_rest c.args.bytes.now c.loop-sent.sent) at c.in-Bytes.ensures.model);
      finished = λ e. absurd (omega arith);
    }

pub returns-in-NotReady-clause-polled : goal.returns-in-NotReady-clause-polled
returns-in-NotReady-clause-polled g c = telling_then _ _ _ _ _ _ (λ x y z p q. took_none _ 1 0 0 x y z p q) c.loop-sent.invariant.model c.in-NotReady.ensures.model

pub returns-in-Stopped-clause-polled : goal.returns-in-Stopped-clause-polled
returns-in-Stopped-clause-polled g c = telling_then _ _ _ _ _ _ (λ x y z p q. took_none _ 0 1 0 x y z p q) c.loop-sent.invariant.model c.in-Stopped.ensures.model

pub returns-in-NotConnected-clause-polled : goal.returns-in-NotConnected-clause-polled
returns-in-NotConnected-clause-polled g c = telling_then _ _ _ _ _ _ (λ x y z p q. took_none _ 0 0 1 x y z p q) c.loop-sent.invariant.model c.in-NotConnected.ensures.model

pub returns-in-NoMemory-clause-polled : goal.returns-in-NoMemory-clause-polled
returns-in-NoMemory-clause-polled g c = telling_then _ _ _ _ _ _ (λ x y z p q. took_none _ 0 0 0 x y z p q) c.loop-sent.invariant.model c.in-NoMemory.ensures.model
