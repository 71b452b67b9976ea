use Rattle.wtp_webtransport.proofs.LossLemmas.{done_rests}
use Rattle.wtp_webtransport.proofs.laws.streams_end_once.Goals as goal

pub returns : goal.returns
returns c = done_rests
