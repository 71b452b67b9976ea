use Rattle.wtp_webtransport.proofs.KeptLemmas.{limits_kept}
use Rattle.wtp_webtransport.proofs.laws.tables_keep_their_limits.Goals as goal

pub returns : goal.returns
returns c = limits_kept
