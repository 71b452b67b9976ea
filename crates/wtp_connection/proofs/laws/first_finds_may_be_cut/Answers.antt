use Rattle.wtp_connection.proofs.FirstCutLemmas.{seen_more}
use Rattle.wtp_connection.proofs.laws.first_finds_may_be_cut.Goals as goal

pub returns : goal.returns
returns c = seen_more
