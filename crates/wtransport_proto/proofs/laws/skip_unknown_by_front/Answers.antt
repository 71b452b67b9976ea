use Rattle.wtp_wire.proofs.RunLemmas.{skip_unknown-unknown}
use Rattle.wtp_wire.proofs.RunLaws.{skip_unknown-known}
use Rattle.wtransport_proto.proofs.laws.skip_unknown_by_front.Goals as goal

pub returns : goal.returns
returns c = record { unknown = skip_unknown-unknown; known = skip_unknown-known }
