use Rattle.wtp_wire.proofs.CapsuleFrontLemmas.{front_is_unique}
use Rattle.wtp_wire.proofs.laws.capsule.one_capsule_front.Goals as goal

pub returns : goal.returns
returns c = λ bytes. front_is_unique bytes
