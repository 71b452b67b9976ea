use Rattle.vesgrauf.proofs.CallLemmas.{said_closes, opened_closes}
use Rattle.vesgrauf.proofs.laws.known_streams_are_closed.Goals as goal

pub returns : goal.returns
returns c = record { told = said_closes; opened = opened_closes }
