use Rattle.std.proofs.Common.{◌-◌, ◌≡◌, ◌≤◌, drop}
use Rattle.std.specs.VecDeque.{deque_capacity}
use Rattle.wtp_dynamic_encoder.specs.Chains.{hashes_of, IsChain}
use Rattle.wtp_dynamic_encoder.proofs.chain.Chain.drop_to.Given as goal

abbrev pub invariant-loop-self : goal.invariant-loop-self
invariant-loop-self l = record {
  chain : IsChain l.self;
  hashes : hashes_of l.self ≡ drop (l.self.dropped - l.initial.self.dropped) (hashes_of l.initial.self);
  low : l.initial.self.dropped ≤ l.self.dropped;
  high : l.self.dropped ≤ l.dropped;
  capacity : deque_capacity l.self.links ≡ deque_capacity l.initial.self.links;
  heads : l.self.heads ≡ l.initial.self.heads;
}

abbrev pub decreases-loop-self : goal.decreases-loop-self
decreases-loop-self l = l.dropped - l.self.dropped
