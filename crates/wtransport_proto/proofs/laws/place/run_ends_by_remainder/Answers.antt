use Rattle.wtransport_proto.proofs.AgreeLemmas.{run-ends}
use Rattle.wtransport_proto.proofs.laws.place.run_ends_by_remainder.Goals as goal

pub returns : goal.returns
returns c = run-ends
