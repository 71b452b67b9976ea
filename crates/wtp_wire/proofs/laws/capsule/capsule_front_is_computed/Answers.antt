use Rattle.wtp_wire.proofs.CapsuleFrontLemmas.{starts-front}
use Rattle.wtp_wire.proofs.laws.capsule.capsule_front_is_computed.Goals as goal

pub returns : goal.returns
returns c = λ bytes f s. starts-front bytes f s
