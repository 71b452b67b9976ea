use Rattle.std.proofs.Common.{◌≡◌, ◌≤◌, ◌+◌, ◌-◌}
use Rattle.wtp_core.specs.Source.{HasModel}
use Rattle.wtp_core.specs.SkipAhead.{max_skipped, Skipped}
use Rattle.wtp_core.proofs.polling.skip_ahead.skip_bytes.Given as goal

abbrev pub invariant-loop-skip_remaining : goal.invariant-loop-skip_remaining
invariant-loop-skip_remaining g l = record {
  fewer : l.skip_remaining ≤ l.fn.skip_remaining;
  room : l.skip_remaining + max_skipped ≡ l.fn.skip_remaining + l.room;
  most : l.room ≤ max_skipped;
  waits : HasModel (g.S.AsyncRead.model l.fn.source) (g.S.AsyncRead.model l.source) (λ a b. b.waits ≡ a.waits);
  model : HasModel (g.S.AsyncRead.model l.fn.source) (g.S.AsyncRead.model l.source) (λ a b. Skipped (l.fn.skip_remaining - l.skip_remaining) a b 0);
}

abbrev pub decreases-loop-skip_remaining : goal.decreases-loop-skip_remaining
decreases-loop-skip_remaining g l = l.skip_remaining
