use Rattle.wt_inspection.proofs.ItemStopLemmas.{session_begins}
use Rattle.wt_inspection.proofs.laws.a_session_comes_first.Goals as goal

pub returns : goal.returns
returns c = session_begins
