use Rattle.wtp_frames.proofs.CutLemmas.{cut}
use Rattle.wtp_frames.proofs.laws.cuts_make_no_difference.Goals as goal

pub returns : goal.returns
returns c = cut
