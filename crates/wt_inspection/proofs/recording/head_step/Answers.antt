use Rattle.std.proofs.Common.{sym, ◌∙◌}
use Rattle.wt_inspection.proofs.PairLemmas.{number_some}
use Rattle.wt_inspection.proofs.RecordingLemmas.{head_push, head_session}
use Rattle.wt_inspection.proofs.recording.head_step.Goals as goal

pub returns-then-has_session-clause-read : goal.returns-then-has_session-clause-read
returns-then-has_session-clause-read c =
    head_session c.args.at c.args.rest.now _ c.session_head.result.length _ c.session_head.result.content c.session_head.result.after c.in-Some.ensures.found (sym c.has_session.ensures ∙ c.if-has_session.true) c.session_head.ensures.read

pub returns-clause-some : goal.returns-clause-some
returns-clause-some c =
    rw c.go_on.ensures.length (number_some c.args.rest.now _ _ c.in-Some.ensures.found)

pub returns-then-is_push-clause-read : goal.returns-then-is_push-clause-read
returns-then-is_push-clause-read c =
    head_push c.args.at c.args.rest.now _ c.push_head.result.length _ c.push_head.result.content c.push_head.result.after c.in-Some.ensures.found (sym c.has_session.ensures ∙ c.if-has_session.false) (sym c.is_push.ensures ∙ c.if-is_push.true) c.push_head.ensures.read
