use Rattle.wtp_webtransport.proofs.ContentLemmas.{judged_alike, fits_later, counted_alike}
use Rattle.wtp_webtransport.proofs.laws.content_is_judged_by_frames.Goals as goal

pub returns-clause-alike : goal.returns-clause-alike
returns-clause-alike c = judged_alike

pub returns-clause-later : goal.returns-clause-later
returns-clause-later c = fits_later

pub returns-clause-counted : goal.returns-clause-counted
returns-clause-counted c = counted_alike
