use Rattle.wt_inspection_views.proofs.StrippedLemmas.{stripped}
use Rattle.wt_inspection_views.proofs.laws.colors_hide_nothing.Goals as goal

pub returns : goal.returns
returns c = stripped
