use Rattle.wtp_frames.proofs.InterimLemmas.{awaits_more, told_headers}
use Rattle.wtp_frames.proofs.laws.interim_responses_may_be_cut.Goals as goal

pub returns-clause-more : goal.returns-clause-more
returns-clause-more c = awaits_more

pub returns-clause-headers : goal.returns-clause-headers
returns-clause-headers c = told_headers
