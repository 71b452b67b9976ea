use Rattle.std.proofs.Common.{◌≡◌, ◌≤◌, length, take, ◌-◌}
use Rattle.wtp_core.specs.Source.{HasModel}
use Rattle.wtp_core.specs.Fill.{Gains}
use Rattle.wtp_core.proofs.polling.fill.fill.Given as goal

abbrev pub invariant-loop-at : goal.invariant-loop-at
invariant-loop-at g l = record {
  front : take l.fn.at l.buf ≡ take l.fn.at l.fn.buf;
  forward : l.fn.at ≤ l.at;
  within : l.at ≤ length l.buf;
  waits : HasModel (g.S.AsyncRead.model l.fn.source) (g.S.AsyncRead.model l.source) (λ a b. b.waits ≡ a.waits);
  model : HasModel (g.S.AsyncRead.model l.fn.source) (g.S.AsyncRead.model l.source) (λ a b. Gains (take l.fn.at l.fn.buf) (take l.at l.buf) a b 0);
}

abbrev pub decreases-loop-at : goal.decreases-loop-at
decreases-loop-at g l = length l.buf - l.at
