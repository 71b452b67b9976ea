use Rattle.wtp_wire.proofs.CapsuleCursorLemmas.{goes_on}
use Rattle.wtp_wire.proofs.capsule.cursor.CapsuleCursor.next.Goals as goal

pub returns-clause-capsules : goal.returns-clause-capsules
returns-clause-capsules c = goes_on _ _ _ _ c.find.ensures
