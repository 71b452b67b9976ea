use Rattle.std.proofs.Common.{◌∙◌, sym, ap}
use Rattle.wtp_fields.specs.SessionRequest.{fault_of}
use Rattle.wtp_fields.proofs.RequestLemmas.{fault_kept}
use Rattle.wtp_fields.proofs.session.request.SessionRequest.insert.Goals as goal

pub invariant_of-self-2 : goal.invariant_of-self-2
invariant_of-self-2 c =
    ap fault_of c.in_ok-insert.ensures.ok ∙ fault_kept c.self.inside.headers (c.args.name.now, c.args.value.now) (sym c.contains.ensures.value ∙ c.if-contains.false) ∙ c.self.invariant
