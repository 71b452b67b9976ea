use Rattle.wtp_wire.proofs.CapsuleLemmas.{capsule_kind_of-is, number-capsule_kind_of}
use Rattle.wtp_wire.proofs.laws.capsule.capsule_kind_is_computed.Goals as goal

pub returns : goal.returns
returns c = record { computed = capsule_kind_of-is; defined = λ kind id e. number-capsule_kind_of id kind e }
