use Rattle.wt_inspection_views.proofs.PageLemmas.{page_policy}
use Rattle.wt_inspection_views.proofs.laws.pages_have_a_policy.Goals as goal

pub returns : goal.returns
returns c = page_policy
