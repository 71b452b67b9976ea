use Rattle.wt_inspection_views.proofs.ShownLemmas.{shown_told_apart}
use Rattle.wt_inspection_views.proofs.laws.shown_bytes_are_told_apart.Goals as goal

pub returns : goal.returns
returns c = shown_told_apart
