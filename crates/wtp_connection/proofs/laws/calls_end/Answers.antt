use Rattle.wtp_connection.proofs.ProgressLemmas.{calls_end}
use Rattle.wtp_connection.proofs.laws.calls_end.Goals as goal

pub returns : goal.returns
returns c = calls_end
