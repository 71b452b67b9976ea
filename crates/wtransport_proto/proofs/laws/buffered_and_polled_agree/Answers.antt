use Rattle.wtransport_proto.proofs.AgreeLemmas.{run-agrees}
use Rattle.wtransport_proto.proofs.laws.buffered_and_polled_agree.Goals as goal

pub returns : goal.returns
returns c = λ role first bytes tail closed. run-agrees role first bytes tail
