use Rattle.vesgrauf_queue.proofs.EndLemmas.{put-idle, ended-idle}
use Rattle.vesgrauf_queue.proofs.laws.nothing_is_left_behind.Goals as goal

pub returns : goal.returns
returns c = record { bytes = put-idle; end = ended-idle }
