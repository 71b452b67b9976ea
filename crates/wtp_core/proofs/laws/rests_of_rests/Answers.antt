use Rattle.std.proofs.Common.{refl}
use Rattle.wtp_core.proofs.RestLemmas.{rest-same, rest-rest}
use Rattle.wtp_core.proofs.laws.rests_of_rests.Goals as goal

pub returns : goal.returns
returns c = record { same = λ bytes. rest-same bytes bytes refl; rest = rest-rest }
