use Rattle.wtp_transcripts.proofs.OrderLemmas.{rules_kept}
use Rattle.wtp_transcripts.proofs.laws.valid_connections_go_on.Goals as goal

pub returns : goal.returns
returns c = rules_kept
