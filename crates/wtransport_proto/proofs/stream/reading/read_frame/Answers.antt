use Rattle.std.proofs.Common.{◌≡◌, rules, not, ap, Err}
use Rattle.wtransport_proto.proofs.ReadingLemmas.{answers_ok, answers_err}
use Rattle.wtransport_proto.proofs.stream.reading.read_frame.Goals as goal

pub returns-in_err-permit-clause-answer : goal.returns-in_err-permit-clause-answer
returns-in_err-permit-clause-answer g c =
    let same : c.from_residual-in_err-permit.result ≡ Err c.in_err-permit.field-0.0 = search rules in
    rw same (answers_err g.K.Rule.role (not c.args.first_frame_done.now) (not c.replace-first.new.dest) _ _ _ c.in-Some.frame c.in_err-permit.field-0.0 c.in_ok-frame.ensures.answer c.in-Some.is (rw c.replace-first.ensures.value at c.in_err-permit.ensures) (ap not c.replace-first.ensures.after))

pub returns-clause-answer : goal.returns-clause-answer
returns-clause-answer g c = answers_ok g.K.Rule.role (not c.args.first_frame_done.now) (not c.replace-first.new.dest) _ _ _ c.in-Some.frame c.in_ok-permit.field-0 c.in_ok-frame.ensures.answer c.in-Some.is (rw c.replace-first.ensures.value at c.in_ok-permit.ensures) (ap not c.replace-first.ensures.after)
