use Rattle.vesgrauf.proofs.ProgressLemmas.{none_idle, turn_of}
use Rattle.vesgrauf.proofs.connection.Connection.next_of_streams.Goals as goal

pub returns-clause-turn : goal.returns-clause-turn
returns-clause-turn c = turn_of c.args.self.now c.in_ok-id.id c.in_ok-id.ensures

pub returns-in_err-next-clause-none : goal.returns-in_err-next-clause-none
returns-in_err-next-clause-none c = λ n. none_idle c.args.self.now c.in_ok-id.id c.in_ok-entry.entry.now
    (turn_of c.args.self.now c.in_ok-id.id c.in_ok-id.ensures) c.in_ok-entry.ensures.value c.in_err-next.ensures
