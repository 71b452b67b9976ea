use Rattle.wtp_wire.proofs.RunLaws.{run-allowed, run-refused, run-bad_id, run-too_big, run-short}
use Rattle.wtransport_proto.proofs.laws.run_goes_by_front.Goals as goal

pub returns : goal.returns
returns c = record { allowed = run-allowed; refused = run-refused; bad_id = run-bad_id; too_big = run-too_big; short = run-short }
