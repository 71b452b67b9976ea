use Rattle.std.proofs.Common.{ap}
use Rattle.vesgrauf_stream.specs.Moves.{Stops}
use Rattle.vesgrauf_stream.proofs.reading.Reading.stop.Goals as goal

pub returns-clause-moves : goal.returns-clause-moves
returns-clause-moves c = Stops c.args.shared.now (ap (λ o. o.2) c.stop.ensures)
