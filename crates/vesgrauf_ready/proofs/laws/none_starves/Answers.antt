use Rattle.vesgrauf_ready.proofs.Starving.{starves, later_wait}
use Rattle.vesgrauf_ready.proofs.laws.none_starves.Goals as goal

pub returns-clause-starves : goal.returns-clause-starves
returns-clause-starves c = starves

pub returns-clause-later : goal.returns-clause-later
returns-clause-later c = later_wait
