use Rattle.std.proofs.Common.{◌≡◌, ◌≤◌, take, ◌-◌}
use Rattle.wtp_core.specs.Source.{HasModel}
use Rattle.wtp_core.specs.Fill.{Gains}
use Rattle.wtp_core.proofs.polling.head.fill_prefix.Given as goal

abbrev pub invariant-loop-len : goal.invariant-loop-len
invariant-loop-len g l = record {
  within : l.len ≤ g.H.Prefix.len_needed (take l.len l.buf);
  forward : l.fn.len ≤ l.len;
  waits : HasModel (g.S.AsyncRead.model l.fn.source) (g.S.AsyncRead.model l.source) (λ a b. b.waits ≡ a.waits);
  front : take l.fn.len l.buf ≡ take l.fn.len l.fn.buf;
  stays : g.H.Prefix.len_needed (take l.fn.len l.fn.buf) ≡ l.fn.len → (l.len ≡ l.fn.len) × (l.buf ≡ l.fn.buf);
  model : HasModel (g.S.AsyncRead.model l.fn.source) (g.S.AsyncRead.model l.source) (λ a b. Gains (take l.fn.len l.fn.buf) (take l.len l.buf) a b 0);
}

abbrev pub decreases-loop-len : goal.decreases-loop-len
decreases-loop-len g l = g.H.Prefix.max_len - l.len
