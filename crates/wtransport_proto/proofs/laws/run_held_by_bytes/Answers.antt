use Rattle.wtransport_proto.proofs.HeldRunLemmas.{run_held-run, run_held-skip_remaining, run_held-lacks}
use Rattle.wtransport_proto.proofs.laws.run_held_by_bytes.Goals as goal

pub returns : goal.returns
returns c = record { held = run_held-run; skip_remaining = run_held-skip_remaining; lacking = run_held-lacks }
