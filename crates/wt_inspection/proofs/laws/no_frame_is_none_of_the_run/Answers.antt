use Rattle.wt_inspection.proofs.ItemStopLemmas.{unread_stops}
use Rattle.wt_inspection.proofs.laws.no_frame_is_none_of_the_run.Goals as goal

pub returns : goal.returns
returns c = unread_stops
