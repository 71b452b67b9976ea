use Rattle.std.proofs.Common.{codes, sym, subst, refl}
use Rattle.wtp_fields.specs.SessionResponse.{HasStatus}
use Rattle.wtp_fields.proofs.ResponseLemmas.{status_put, status_written}
use Rattle.wtp_fields.proofs.session.response.SessionResponse.with_status_code.Goals as goal

pub invariant_of-result : goal.invariant_of-result
invariant_of-result c =
    let text = status_written c.into_inner-code.result (rw c.into_inner-code.ensures.value c.into_inner-code.ensures.range) in
    subst HasStatus (sym c.in_ok-insert.ensures.ok) (status_put c.new-headers.result (codes ":status", c.as_str.result.now) refl (rw (c.as_str.ensures.value, c.in_ok-text.ensures.ok) text.0))
