use Rattle.wtp_fields.proofs.RequestLemmas.{faultless_has, lent_some}
use Rattle.wtp_fields.proofs.session.request.SessionRequest.path.Goals as goal

pub unwrap-requires : goal.unwrap-requires
unwrap-requires c = lent_some c.get.result _ c.get.ensures (faultless_has c.self.inside.headers c.self.invariant).path
