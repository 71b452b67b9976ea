use Rattle.std.proofs.Common.{subst, sym}
use Rattle.wtp_dynamic_encoder.specs.Acknowledging.{Ledger}
use Rattle.wtp_dynamic_encoder.proofs.Kept.{Both, first_keep}
use Rattle.wtp_dynamic_encoder.proofs.encoder.QpackEncoder.take_back.Goals as goal

pub invariant_of-self : goal.invariant_of-self
invariant_of-self c =
    subst (λ (z : Ledger). Both c.self.inside.table c.self.inside.most z) (sym c.truncate.ensures)
    (first_keep c.self.inside.table c.self.inside.most c.args.count c.self.inside.ledger c.self.invariant)
