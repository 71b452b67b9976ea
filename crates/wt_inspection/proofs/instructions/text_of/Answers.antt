use Rattle.wtp_dynamic.proofs.Texts.{text_none}
use Rattle.wt_inspection.proofs.InstructionLemmas.{text_is}
use Rattle.wt_inspection.proofs.instructions.text_of.Goals as goal

pub returns-in-Ok : goal.returns-in-Ok
returns-in-Ok c = text_is _ _ _ c.if-not-string.false c.in-Ok.ensures.found

pub returns-in-Err-Invalid : goal.returns-in-Err-Invalid
returns-in-Err-Invalid c = λ other.
    text_none _ _ c.if-not-string.false (λ t h. cc (c.in-Err-Invalid.ensures.only t h, c.in-Err-Invalid.field-0-is))
