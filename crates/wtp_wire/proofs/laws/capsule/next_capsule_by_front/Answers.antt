use Rattle.wtp_wire.specs.CapsuleFront.{Unknown}
use Rattle.wtp_wire.proofs.CapsuleStreamLemmas.{next-by, next-known}
use Rattle.wtp_wire.proofs.laws.capsule.next_capsule_by_front.Goals as goal

pub returns-clause-unknown : goal.returns-clause-unknown
returns-clause-unknown c = λ bytes rest e. next-by bytes (Unknown rest) e

pub returns-clause-other : goal.returns-clause-other
returns-clause-other c = λ bytes h. next-known bytes h
