use Rattle.std.proofs.Common.{◌∙◌, sym, subst}
use Rattle.wtp_fields.specs.SessionResponse.{HasStatus}
use Rattle.wtp_fields.proofs.ResponseLemmas.{status_kept, status_put, parsed_good}
use Rattle.wtp_fields.proofs.session.response.SessionResponse.add.Goals as goal
use Rattle.wtp_fields.proofs.session.response.SessionResponse.add.Goals.{else-eq-via-then-eq+else-is_err, else-eq-via-else-eq}

pub invariant_of-self-2 : goal.invariant_of-self-2
invariant_of-self-2 c = subst HasStatus (sym c.in_ok-insert.ensures.ok) (elim c.else-eq.branch [
  | else-eq-via-then-eq+else-is_err w ↦ status_put c.self.inside.headers (c.args.name.now, c.args.value.now) (sym c.eq.ensures ∙ w.if-eq.true) (parsed_good w.parse.result _ w.parse.ensures.value (sym w.is_err.ensures.value ∙ w.if-is_err.false))
  | else-eq-via-else-eq w ↦ status_kept c.self.inside.headers (c.args.name.now, c.args.value.now) c.self.invariant (sym c.eq.ensures ∙ w.if-eq.false)
])
