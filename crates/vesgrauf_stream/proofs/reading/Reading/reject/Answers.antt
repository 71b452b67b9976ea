use Rattle.std.proofs.Common.{ap}
use Rattle.vesgrauf_stream.specs.Moves.{Rejects}
use Rattle.vesgrauf_stream.proofs.reading.Reading.reject.Goals as goal

pub returns-clause-moves : goal.returns-clause-moves
returns-clause-moves c = Rejects c.args.shared.now c.args.id c.args.goaway (ap (λ o. o.2) c.reject.ensures)
