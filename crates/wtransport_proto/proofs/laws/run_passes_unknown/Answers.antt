use Rattle.wtransport_proto.proofs.ReadingLemmas.{run-unknown}
use Rattle.wtp_wire.proofs.RunLaws.{run-unknown_open}
use Rattle.wtransport_proto.proofs.laws.run_passes_unknown.Goals as goal

pub returns : goal.returns
returns c = record { ended = run-unknown; going_on = run-unknown_open }
