use Rattle.wtp_dynamic_encoder.specs.Choosing.{is_field}
use Rattle.wtp_dynamic_encoder.specs.Hashing.{field_hash}
use Rattle.wtp_dynamic_encoder.proofs.Walks.{Walk}
use Rattle.wtp_dynamic_encoder.proofs.indexed.find_field.Given as goal

abbrev pub invariant-loop-place : goal.invariant-loop-place
invariant-loop-place l = Walk field_hash (is_field (l.name, l.value)) l.table l.hash l.place l.below

abbrev pub decreases-loop-place : goal.decreases-loop-place
decreases-loop-place l = l.place
