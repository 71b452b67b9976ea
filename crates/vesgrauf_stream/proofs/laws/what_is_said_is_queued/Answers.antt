use Rattle.vesgrauf_stream.proofs.SaidLemmas.{said_whole, said_start}
use Rattle.vesgrauf_stream.proofs.laws.what_is_said_is_queued.Goals as goal

pub returns : goal.returns
returns c = record { whole = said_whole; start = said_start }
