use Rattle.std.proofs.Common.{◌-◌, length}
use Rattle.wtp_wire.specs.CapsuleCursor.{held_by}
use Rattle.wtp_wire.proofs.CapsuleCursorLemmas.{HasSkipped}
use Rattle.wtp_wire.proofs.capsule.cursor.CapsuleCursor.find.Given as goal

abbrev pub invariant-capsules : goal.invariant-capsules
invariant-capsules l = HasSkipped (held_by l.fn.self) l.bytes l.self.skip_remaining l.at

abbrev pub decreases-capsules : goal.decreases-capsules
decreases-capsules l = length l.bytes - l.at
