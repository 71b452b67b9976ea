use Rattle.vesgrauf_stream.specs.Moves.{Answers}
use Rattle.vesgrauf_stream.proofs.reading.Reading.answer.Goals as goal

pub returns-clause-moves : goal.returns-clause-moves
returns-clause-moves c = Answers c.args.status c.answer.ensures
