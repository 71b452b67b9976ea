use Rattle.std.proofs.Common.{◌≡◌, ◌<◌, length, take}
use Rattle.std.specs.VecDeque.{deque_capacity}
use Rattle.wtp_dynamic_encoder.specs.Chains.{hashes_of, IsChain}
use Rattle.wtp_dynamic_encoder.proofs.chain.Chain.grown.Given as goal

abbrev pub invariant-loop-i : goal.invariant-loop-i
invariant-loop-i l = record {
  chain : IsChain l.chain;
  hashes : hashes_of l.chain ≡ take l.i (hashes_of l.self);
  dropped : l.chain.dropped ≡ l.self.dropped;
  room : length l.self.links.items < deque_capacity l.chain.links;
  some : 0 < length l.chain.heads.items;
}
