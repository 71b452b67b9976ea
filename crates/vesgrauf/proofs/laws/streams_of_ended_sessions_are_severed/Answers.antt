use Rattle.vesgrauf.proofs.JoinedLemmas.{joined_severed, open_holds}
use Rattle.vesgrauf.proofs.laws.streams_of_ended_sessions_are_severed.Goals as goal

pub returns-clause-severed : goal.returns-clause-severed
returns-clause-severed a = λ c session over. joined_severed c.streams.entries c.ids session over c.joined

pub returns-clause-open : goal.returns-clause-open
returns-clause-open a = open_holds
