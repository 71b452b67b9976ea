use Rattle.wtp_frames.proofs.RunLemmas.{run_step}
use Rattle.wtp_frames.proofs.laws.run_goes_by_head.Goals as goal

pub returns : goal.returns
returns c = run_step
