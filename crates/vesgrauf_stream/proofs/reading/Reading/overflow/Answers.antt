use Rattle.std.proofs.Common.{ap}
use Rattle.vesgrauf_stream.specs.Moves.{Overflows}
use Rattle.vesgrauf_stream.proofs.reading.Reading.overflow.Goals as goal

pub returns-clause-moves : goal.returns-clause-moves
returns-clause-moves c = Overflows c.args.shared.now (ap (λ o. o.2) c.overflow.ensures)
