use Rattle.std.proofs.Common.{sym}
use Rattle.wtp_transcripts.proofs.JoinedLemmas.{joined_alone}
use Rattle.wtp_transcripts.proofs.laws.bytes_between_calls_may_be_cut.Goals as goal

pub returns : goal.returns
returns c = λ ctx h events e. sym (joined_alone events ctx h e)
