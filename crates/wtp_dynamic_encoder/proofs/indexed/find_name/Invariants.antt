use Rattle.wtp_dynamic_encoder.specs.Choosing.{has_name}
use Rattle.wtp_dynamic_encoder.specs.Hashing.{name_hash}
use Rattle.wtp_dynamic_encoder.proofs.Walks.{Walk}
use Rattle.wtp_dynamic_encoder.proofs.indexed.find_name.Given as goal

abbrev pub invariant-loop-place : goal.invariant-loop-place
invariant-loop-place l = Walk name_hash (has_name l.name) l.table l.hash l.place l.below

abbrev pub decreases-loop-place : goal.decreases-loop-place
decreases-loop-place l = l.place
