use Rattle.wtransport_proto.proofs.PlaceLemmas.{place_new}
use Rattle.wtransport_proto.proofs.laws.place.place_by_remainder.Goals as goal

pub returns : goal.returns
returns c = place_new
