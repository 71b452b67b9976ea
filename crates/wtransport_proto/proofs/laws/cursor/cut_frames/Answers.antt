use Rattle.wtransport_proto.proofs.CutFrameLemmas.{due_begins, begins_due}
use Rattle.wtransport_proto.proofs.laws.cursor.cut_frames.Goals as goal

pub returns : goal.returns
returns c = record { computed = due_begins; alone = begins_due }
