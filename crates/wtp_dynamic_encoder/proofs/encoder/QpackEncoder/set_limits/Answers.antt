use Rattle.std.proofs.Common.{◌≡◌, true, subst, sym, ◌∙◌}
use Rattle.wtp_dynamic_encoder.specs.Encoding.{State, is_unused}
use Rattle.wtp_dynamic_encoder.proofs.Kept.{owes_unused, few_unused}
use Rattle.wtp_dynamic_encoder.proofs.encoder.QpackEncoder.set_limits.Goals as goal

pub invariant_of-self : goal.invariant_of-self
invariant_of-self c =
    let unused : is_unused c.self.inside.table c.self.inside.ledger ≡ true =
    subst (λ (s : State). is_unused s.table s.ledger ≡ true) (sym c.self.view_is) (sym c.is_unused.ensures ∙ c.if-not-is_unused.false) in
    (owes_unused c.self.inside.table c.new.result c.self.inside.ledger c.args.limit unused c.new.ensures, few_unused c.self.inside.table c.self.inside.ledger c.args.most unused)
