use Rattle.wtp_wire.specs.CapsuleFront.{Found, Unknown, TooLong, Cut, End}
use Rattle.wtp_wire.proofs.CapsuleStreamLemmas.{capsules-by}
use Rattle.wtp_wire.proofs.laws.capsule.capsules_by_first.Goals as goal

pub returns-clause-found : goal.returns-clause-found
returns-clause-found c = λ bytes value rest kind e. capsules-by bytes (Found kind value rest) e

pub returns-clause-unknown : goal.returns-clause-unknown
returns-clause-unknown c = λ bytes rest e. capsules-by bytes (Unknown rest) e

pub returns-clause-too_long : goal.returns-clause-too_long
returns-clause-too_long c = λ bytes rest e. capsules-by bytes (TooLong rest) e

pub returns-clause-cut : goal.returns-clause-cut
returns-clause-cut c = λ bytes e. capsules-by bytes Cut e

pub returns-clause-end : goal.returns-clause-end
returns-clause-end c = λ bytes e. capsules-by bytes End e
