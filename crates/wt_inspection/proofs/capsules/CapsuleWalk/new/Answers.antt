use Rattle.std.proofs.Common.{None, [], refl, ap}
use Rattle.wtp_wire.specs.declared.capsule.cursor.CapsuleCursor.{CapsuleCursor}
use Rattle.wt_inspection.proofs.WalkLemmas.{holds_none}
use Rattle.wt_inspection.proofs.capsules.CapsuleWalk.new.Goals as goal

pub returns : goal.returns
returns c = holds_none None [] _ _ refl (ap (λ (x : CapsuleCursor). x.skip_remaining) c.new.ensures) cc
