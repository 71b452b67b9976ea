use Rattle.wtp_wire.proofs.CapsuleLemmas.{capsule_in-begins, begins-capsule_in}
use Rattle.wtp_wire.proofs.laws.capsule.capsule_is_computed.Goals as goal

pub returns : goal.returns
returns c = record { computed = capsule_in-begins; defined = begins-capsule_in }
