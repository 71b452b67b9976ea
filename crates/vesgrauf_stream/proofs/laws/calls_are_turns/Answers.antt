use Rattle.vesgrauf_stream.proofs.ReadingLemmas.{next_turns, keep_turns}
use Rattle.vesgrauf_stream.proofs.laws.calls_are_turns.Goals as goal

pub returns : goal.returns
returns c = record { next = next_turns; keep = keep_turns }
