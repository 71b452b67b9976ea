use Rattle.std.proofs.Common.{◌∙◌}
use Rattle.wtp_dynamic_encoder.specs.PlanView.{plan_of}
use Rattle.wtp_dynamic_encoder.proofs.Sections.{lines_push}
use Rattle.wtp_dynamic_encoder.proofs.section.add_line.Goals as goal

pub returns : goal.returns
returns c = λ proposals lines.
    lines_push _ _ _ proposals _ _ _ (plan_of c.choose-plan.result) c.args.proposal _ _ _ lines c.choose-plan.ensures.can c.choose-plan.ensures.field c.choose-plan.ensures.chosen
    (c.note.ensures.bytes ∙ cc (c.in_ok-write_line.ensures.ok, c.insert_count-base.ensures.value))
    (cc (c.note.ensures.required, c.place_of.ensures))
    (cc (c.note.ensures.lowest, c.place_of.ensures))
