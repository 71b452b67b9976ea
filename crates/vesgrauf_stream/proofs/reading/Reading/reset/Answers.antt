use Rattle.std.proofs.Common.{ap}
use Rattle.vesgrauf_stream.specs.Moves.{Resets}
use Rattle.vesgrauf_stream.proofs.reading.Reading.reset.Goals as goal

pub returns-clause-moves : goal.returns-clause-moves
returns-clause-moves c = Resets c.args.shared.now (ap (λ o. o.2) c.reset.ensures)
