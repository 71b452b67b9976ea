use Rattle.wtp_fields.proofs.RequestLemmas.{five_faultless}
use Rattle.wtp_fields.proofs.session.request.SessionRequest.for_url.Goals as goal

pub invariant_of-result : goal.invariant_of-result
invariant_of-result c = rw c.in_ok-headers.ensures (five_faultless _ _)
