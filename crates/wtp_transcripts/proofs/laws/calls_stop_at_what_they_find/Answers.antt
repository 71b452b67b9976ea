use Rattle.wtp_transcripts.proofs.CallLemmas.{stops_there}
use Rattle.wtp_transcripts.proofs.laws.calls_stop_at_what_they_find.Goals as goal

pub returns : goal.returns
returns c = stops_there
