use Rattle.std.proofs.Common.{ap}
use Rattle.vesgrauf_stream.specs.Moves.{Abandons}
use Rattle.vesgrauf_stream.proofs.reading.Reading.abandon.Goals as goal

pub returns-clause-moves : goal.returns-clause-moves
returns-clause-moves c = Abandons c.args.shared.now (ap (λ o. o.2) c.abandon.ensures)
