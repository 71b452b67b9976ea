use Rattle.std.proofs.Common.{◌≡◌, take, drop, sym, ap, ◌∙◌}
use Rattle.wt_inspection.proofs.MessageLemmas.{whole_leads}
use Rattle.wt_inspection.proofs.frames.whole_frame.Goals as goal

pub returns-clause-stage : goal.returns-clause-stage
returns-clause-stage c =
    let n = c.into_inner-present.result in
    let same : take n (drop c.args.pair.size c.args.rest.now) ≡ c.split_at-2.result.0.now = ap (take n) (sym c.split_at.ensures.back) ∙ sym c.split_at-2.ensures.front in
    whole_leads c.args.role c.args.first c.args.at c.args.rest.now _ c.in_ok-parts.field-0.after c.args.reading.now.phase c.judged_parts.new.reading.phase
    (rw (c.frame_of.ensures, same) c.in_ok-parts.ensures.stage)
    (rw c.frame_of.ensures c.into_inner-present.ensures.value)

pub returns-clause-sections : goal.returns-clause-sections
returns-clause-sections c =
    let n = c.into_inner-present.result in
    let same : take n (drop c.args.pair.size c.args.rest.now) ≡ c.split_at-2.result.0.now = ap (take n) (sym c.split_at.ensures.back) ∙ sym c.split_at-2.ensures.front in
    rw (c.frame_of.ensures, same) c.in_ok-parts.ensures.sections
