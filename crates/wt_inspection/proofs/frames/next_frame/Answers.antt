use Rattle.wt_inspection.proofs.MessageLemmas.{no_frame_leads}
use Rattle.wt_inspection.proofs.frames.next_frame.Goals as goal

pub returns-in_default-clause-stage : goal.returns-in_default-clause-stage
returns-in_default-clause-stage c =
    no_frame_leads c.args.reading.now.phase c.args.role c.args.first c.args.at c.args.rest.now c.last.result.content c.last.result.after (rw c.last.ensures.content tt)

pub returns-then-is_session-clause-stage : goal.returns-then-is_session-clause-stage
returns-then-is_session-clause-stage c =
    no_frame_leads c.args.reading.now.phase c.args.role c.args.first c.args.at c.args.rest.now c.session_item.result.content c.session_item.result.after c.session_item.ensures.plain
