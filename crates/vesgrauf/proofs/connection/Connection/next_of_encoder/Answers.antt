use Rattle.vesgrauf.proofs.ProgressLemmas.{or_right}
use Rattle.vesgrauf.proofs.connection.Connection.next_of_encoder.Goals as goal

pub returns-in-None-clause-turn : goal.returns-in-None-clause-turn
returns-in-None-clause-turn c = or_right _ _ c.next_of_streams.result c.next_of_streams.ensures.turn

pub returns-in-None-clause-encoder : goal.returns-in-None-clause-encoder
returns-in-None-clause-encoder c = λ h. c.next_due.ensures.none c.in-None.is
