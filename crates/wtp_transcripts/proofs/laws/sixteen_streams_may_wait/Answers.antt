use Rattle.wtp_transcripts.proofs.PlaceLemmas.{sixteen_places}
use Rattle.wtp_transcripts.proofs.laws.sixteen_streams_may_wait.Goals as goal

pub returns : goal.returns
returns c = sixteen_places
