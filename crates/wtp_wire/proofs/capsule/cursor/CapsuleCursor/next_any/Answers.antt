use Rattle.wtp_wire.proofs.AnyCapsuleLemmas.{any_goes_on}
use Rattle.wtp_wire.proofs.capsule.cursor.CapsuleCursor.next_any.Goals as goal

pub returns-clause-capsules : goal.returns-clause-capsules
returns-clause-capsules c = any_goes_on _ _ _ _ c.first.ensures
