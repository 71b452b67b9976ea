use Rattle.vesgrauf.proofs.CallLemmas.{cut_opened, cut_said}
use Rattle.vesgrauf.proofs.laws.cut_streams_are_closed.Goals as goal

pub returns-clause-told : goal.returns-clause-told
returns-clause-told c = cut_said

pub returns-clause-opened : goal.returns-clause-opened
returns-clause-opened c = cut_opened
