use Rattle.std.proofs.Common.{◌≡◌, ◌++◌, take}
use Rattle.wtp_dynamic_encoder.specs.Stored.{sections_bytes, AreStreams}
use Rattle.wtp_dynamic_encoder.proofs.encoder.stored.put_sections.Given as goal

abbrev pub invariant-loop-place : goal.invariant-loop-place
invariant-loop-place l = record {
  bytes : l.out.items ≡ l.initial.out.items ++ sections_bytes (take l.place l.ledger.1);
  streams : AreStreams (take l.place l.ledger.1);
}
