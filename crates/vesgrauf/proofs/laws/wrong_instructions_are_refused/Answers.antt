use Rattle.vesgrauf.proofs.RefusedLemmas.{forgotten, left_here, none_said, not_counted, one_alone, read_here, silent}
use Rattle.vesgrauf.proofs.DeedLemmas.{not_again, not_twice}
use Rattle.vesgrauf.proofs.laws.wrong_instructions_are_refused.Goals as goal

pub returns-clause-said_twice : goal.returns-clause-said_twice
returns-clause-said_twice c = one_alone

pub returns-clause-read_elsewhere : goal.returns-clause-read_elsewhere
returns-clause-read_elsewhere c = read_here

pub returns-clause-left_elsewhere : goal.returns-clause-left_elsewhere
returns-clause-left_elsewhere c = left_here

pub returns-clause-counted : goal.returns-clause-counted
returns-clause-counted c = not_counted

pub returns-clause-made_up : goal.returns-clause-made_up
returns-clause-made_up c = none_said

pub returns-clause-forgotten : goal.returns-clause-forgotten
returns-clause-forgotten c = forgotten

pub returns-clause-silent : goal.returns-clause-silent
returns-clause-silent c = silent

pub returns-clause-cancelled_twice : goal.returns-clause-cancelled_twice
returns-clause-cancelled_twice c = not_twice

pub returns-clause-cancelled_again : goal.returns-clause-cancelled_again
returns-clause-cancelled_again c = not_again
