use Rattle.std.proofs.Common.{arith, length-drop, sym}
use Rattle.wt_inspection.proofs.MessageLemmas.{cut_leads, present_all}
use Rattle.wt_inspection.proofs.frames.cut_frame.Goals as goal

pub returns-clause-stage : goal.returns-clause-stage
returns-clause-stage c =
    let back = c.split_at.result.1.now in
    cut_leads c.args.role c.args.first c.args.at c.args.rest.now _ c.in_ok-parts.field-0.after c.args.reading.now.phase c.judged_cut.new.reading.phase
    (rw (c.frame_of.ensures, present_all c.args.pair.size c.args.rest.now back c.split_at.ensures.back, sym c.into_inner.ensures.value) c.in_ok-parts.ensures.stage)
    (rw c.frame_of.ensures (omega (arith, length-drop c.args.pair.size c.args.rest.now)))
