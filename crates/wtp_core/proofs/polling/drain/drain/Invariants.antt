use Rattle.std.proofs.Common.{◌≡◌, ◌≤◌, length, take, drop, ◌-◌}
use Rattle.wtp_core.specs.Source.{HasModel}
use Rattle.wtp_core.specs.Sink.{Took}
use Rattle.wtp_core.proofs.polling.drain.drain.Given as goal

abbrev pub invariant-loop-sent : goal.invariant-loop-sent
invariant-loop-sent g l = record {
  forward : l.fn.sent ≤ l.sent;
  within : l.sent ≤ length l.bytes;
  model : HasModel (g.W.AsyncWrite.model l.fn.sink) (g.W.AsyncWrite.model l.sink) (λ a b. Took a b (drop l.fn.sent (take l.sent l.bytes)) 0 0 0);
  finished : l.fn.sent ≡ length l.bytes → l.sink ≡ l.fn.sink;
}

abbrev pub decreases-loop-sent : goal.decreases-loop-sent
decreases-loop-sent g l = length l.bytes - l.sent
