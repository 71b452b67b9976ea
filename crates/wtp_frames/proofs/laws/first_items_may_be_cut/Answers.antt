use Rattle.wtp_frames.proofs.FirstCutLemmas.{first_more}
use Rattle.wtp_frames.proofs.laws.first_items_may_be_cut.Goals as goal

pub returns : goal.returns
returns c = first_more
