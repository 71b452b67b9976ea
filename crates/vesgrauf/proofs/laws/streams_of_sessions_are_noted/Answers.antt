use Rattle.vesgrauf.proofs.CallLemmas.{run_sound}
use Rattle.vesgrauf.proofs.laws.streams_of_sessions_are_noted.Goals as goal

pub returns-clause-sound : goal.returns-clause-sound
returns-clause-sound c = run_sound

pub returns-clause-noted : goal.returns-clause-noted
returns-clause-noted c = λ calls d r. (run_sound calls d r).linked
