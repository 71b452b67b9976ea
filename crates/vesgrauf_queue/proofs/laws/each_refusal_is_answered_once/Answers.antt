use Rattle.vesgrauf_queue.proofs.KeptLemmas.{owes-new}
use Rattle.vesgrauf_queue.proofs.laws.each_refusal_is_answered_once.Goals as goal

pub returns : goal.returns
returns c = owes-new
