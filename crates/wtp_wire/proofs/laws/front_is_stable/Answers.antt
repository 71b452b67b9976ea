use Rattle.wtp_wire.proofs.FrontLemmas.{front-more}
use Rattle.wtp_wire.proofs.laws.front_is_stable.Goals as goal

pub returns : goal.returns
returns c = front-more
