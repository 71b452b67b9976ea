use Rattle.std.proofs.Common.{◌≡◌, rules, false, refl, Err}
use Rattle.wtransport_proto.proofs.ReadingLemmas.{answers_ok, answers_err}
use Rattle.wtransport_proto.proofs.stream.reading.read_later_frame.Goals as goal

pub returns-in_err-permit-clause-answer : goal.returns-in_err-permit-clause-answer
returns-in_err-permit-clause-answer g c =
    let same : c.from_residual-in_err-permit.result ≡ Err c.in_err-permit.field-0.0 = search rules in
    rw same (answers_err g.K.Rule.role false false _ _ _ c.in-Some.frame c.in_err-permit.field-0.0 c.in_ok-frame.ensures.answer c.in-Some.is c.in_err-permit.ensures refl)

pub returns-clause-answer : goal.returns-clause-answer
returns-clause-answer g c = answers_ok g.K.Rule.role false false _ _ _ c.in-Some.frame c.in_ok-permit.field-0 c.in_ok-frame.ensures.answer c.in-Some.is c.in_ok-permit.ensures refl
