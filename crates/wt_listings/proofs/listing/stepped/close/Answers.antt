use Rattle.wt_listings.proofs.SteppedLemmas.{says_end, is_end}
use Rattle.wt_listings.proofs.listing.stepped.close.Goals as goal

pub returns-in-H3-clause-listing : goal.returns-in-H3-clause-listing
returns-in-H3-clause-listing c = λ e is. rw (rw c.in-H3.is at is) c.fault.ensures

pub returns-in-IO-ImmediateFin-clause-listing : goal.returns-in-IO-ImmediateFin-clause-listing
returns-in-IO-ImmediateFin-clause-listing c = λ e is. rw (is_end _ _ e c.in-IO-ImmediateFin.is c.requires is) (says_end _ _ _ c.end.ensures)
