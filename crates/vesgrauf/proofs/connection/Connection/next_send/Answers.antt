use Rattle.vesgrauf.proofs.ProgressLemmas.{all_sent, or_right}
use Rattle.vesgrauf.proofs.connection.Connection.next_send.Goals as goal

pub returns-in-None-clause-none : goal.returns-in-None-clause-none
returns-in-None-clause-none c = λ r o b. all_sent c.args.self.now (c.next_due.ensures.none c.in-None.is)
    (c.next_of_qpack.ensures.decoder r) (c.next_of_qpack.ensures.encoder r) (c.next_of_qpack.ensures.none r)

pub returns-in-None-clause-turn : goal.returns-in-None-clause-turn
returns-in-None-clause-turn c = or_right _ _ c.next_of_qpack.result c.next_of_qpack.ensures.turn
