use Rattle.std.proofs.Common.{◌≡◌, length}
use Rattle.wtp_dynamic_encoder.specs.Keys.{AreKeys}
use Rattle.wtp_dynamic_encoder.proofs.key.fill_keys.Given as goal

abbrev pub invariant-loop-proposal : goal.invariant-loop-proposal
invariant-loop-proposal l = record {
  count : length l.keys.items ≡ l.proposal-index;
  keys : AreKeys l.keys.items l.proposals;
}
