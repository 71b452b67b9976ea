use Rattle.vesgrauf_stream.proofs.ReadBackLemmas.{call_read, all_read}
use Rattle.vesgrauf_stream.proofs.laws.what_is_said_is_read.Goals as goal

pub returns : goal.returns
returns c = record { call = call_read; all = all_read }
