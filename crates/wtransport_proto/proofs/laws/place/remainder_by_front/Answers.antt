use Rattle.wtransport_proto.proofs.RemainderLemmas.{remainder-allowed, remainder-refused, remainder-no_frame}
use Rattle.wtransport_proto.proofs.laws.place.remainder_by_front.Goals as goal

pub returns : goal.returns
returns c = record { allowed = remainder-allowed; refused = remainder-refused; no_frame = remainder-no_frame }
