use Rattle.vesgrauf.proofs.ProgressLemmas.{or_right}
use Rattle.vesgrauf.proofs.connection.Connection.next_of_qpack.Goals as goal

pub returns-in-None-clause-turn : goal.returns-in-None-clause-turn
returns-in-None-clause-turn c = or_right _ _ c.next_of_encoder.result c.next_of_encoder.ensures.turn

pub returns-in-None-clause-decoder : goal.returns-in-None-clause-decoder
returns-in-None-clause-decoder c = λ h. c.next_due.ensures.none c.in-None.is
