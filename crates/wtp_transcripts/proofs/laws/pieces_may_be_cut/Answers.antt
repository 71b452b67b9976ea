use Rattle.wtp_transcripts.proofs.TranscriptLemmas.{pieces_seen, pieces_after}
use Rattle.wtp_transcripts.proofs.laws.pieces_may_be_cut.Goals as goal

pub returns-clause-seen : goal.returns-clause-seen
returns-clause-seen c = pieces_seen

pub returns-clause-connection : goal.returns-clause-connection
returns-clause-connection c = pieces_after
