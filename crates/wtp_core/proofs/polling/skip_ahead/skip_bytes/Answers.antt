use Rattle.std.proofs.Common.{◌-◌, ◌<◌, ◌≤◌, arith}
use Rattle.wtp_core.specs.SkipAhead.{Skipped}
use Rattle.wtp_core.proofs.TellingLemmas.{telling_then}
use Rattle.wtp_core.proofs.WaitLemmas.{waits_then, none_waits}
use Rattle.wtp_core.proofs.SkipLemmas.{skipped_then, skipped_some}
use Rattle.wtp_core.proofs.polling.skip_ahead.skip_bytes.Goals as goal

pub loop-skip_remaining-preserved : goal.loop-skip_remaining-preserved
loop-skip_remaining-preserved g c =
    let inv = c.loop-skip_remaining.invariant in
    let n = c.in-Bytes.n in
    let fits : n ≤ c.min-want.result = c.in-Bytes.ensures.lengths in
    let small : (n ≤ c.loop-skip_remaining.skip_remaining) × (n ≤ c.loop-skip_remaining.room) = (omega (arith, c.min.ensures, c.min-want.ensures), omega (arith, c.min.ensures, c.min-want.ensures)) in
    let some : 0 < n = omega arith in
    let in_due = small.0 in
    let in_room = small.1 in
    record {
      fewer = omega arith;
      room = omega arith;
      most = omega arith;
      waits = none_waits _ _ (waits_then 0 _ _ _ inv.waits c.in-Bytes.ensures.waits);
      model = telling_then _ _ _ _ _ (λ x z. Skipped (c.args.skip_remaining.now - (c.loop-skip_remaining.skip_remaining - n)) x z 0)
          (λ x y z p q. skipped_then (c.args.skip_remaining.now - c.loop-skip_remaining.skip_remaining) n _ 0 x y z (omega arith) p (skipped_some n y z some q.0 q.1)) inv.model c.in-Bytes.ensures.model;
    }
