use Rattle.wt_inspection.proofs.ItemFrameLemmas.{frames_of_run}
use Rattle.wt_inspection.proofs.laws.frames_are_those_of_the_run.Goals as goal

pub returns : goal.returns
returns c = frames_of_run
