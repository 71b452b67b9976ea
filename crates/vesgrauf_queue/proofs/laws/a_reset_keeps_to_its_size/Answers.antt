use Rattle.vesgrauf_queue.proofs.ResetLemmas.{resets-for-new, stays-within-new}
use Rattle.vesgrauf_queue.proofs.laws.a_reset_keeps_to_its_size.Goals as goal

pub returns : goal.returns
returns c = record { asked = resets-for-new; within = stays-within-new }
