use Rattle.wtp_transcripts.proofs.CallLemmas.{calls_read}
use Rattle.wtp_transcripts.proofs.laws.calls_find_everything.Goals as goal

pub returns : goal.returns
returns c = calls_read
