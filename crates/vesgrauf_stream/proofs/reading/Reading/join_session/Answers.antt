use Rattle.std.proofs.Common.{ap}
use Rattle.vesgrauf_stream.specs.Moves.{Joins}
use Rattle.vesgrauf_stream.proofs.reading.Reading.join_session.Goals as goal

pub returns-clause-moves : goal.returns-clause-moves
returns-clause-moves c = Joins c.args.shared.now c.args.known (ap (λ o. o.2) c.join.ensures)
