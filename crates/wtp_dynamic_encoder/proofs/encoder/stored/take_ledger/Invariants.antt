use Rattle.std.proofs.Common.{◌≡◌, ◌≤◌, ◌+◌, ◌-◌, ◌++◌, length}
use Rattle.wtp_dynamic.specs.EncoderState.{AreKept}
use Rattle.wtp_dynamic_encoder.specs.Stored.{sections_bytes, AreStreams}
use Rattle.wtp_dynamic_encoder.proofs.encoder.stored.take_ledger.Given as goal

abbrev pub invariant-loop-count : goal.invariant-loop-count
invariant-loop-count l = record {
  known : l.ledger.0 ≡ l.head.known;
  count : length l.ledger.1 ≡ l.count;
  most : l.count ≤ l.sections;
  kept : AreKept l.head.dropped (l.head.dropped + l.head.count) l.ledger.1;
  streams : AreStreams l.ledger.1;
  bytes : l.bytes ≡ sections_bytes l.ledger.1 ++ l.rest;
}

abbrev pub decreases-loop-count : goal.decreases-loop-count
decreases-loop-count l = l.sections - l.count
