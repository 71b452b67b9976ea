use Rattle.vesgrauf_queue.proofs.EndLemmas.{in-order-new, whole-new}
use Rattle.vesgrauf_queue.proofs.laws.the_end_comes_once_and_last.Goals as goal

pub returns : goal.returns
returns c = record { order = in-order-new; whole = whole-new }
