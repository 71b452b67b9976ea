use Rattle.std.proofs.Common.{◌≡◌, ℕ, List, refl}
use Rattle.wtp_wire.specs.CapsuleCursor.{StepIs, CapsulesGoOn}
use Rattle.wtp_wire.specs.declared.capsule.cursor.CapsuleCursor.{CapsuleCursor}
use Rattle.wtp_wire.specs.declared.capsule.cursor.CapsuleSpan.{CapsuleSpan}
use Rattle.wtp_wire.specs.declared.capsule.cursor.CapsuleStep.TheVariants.{Capsule}
use Rattle.wt_c.specs.CapsuleReader.{cursor_of, Stepped}
use Rattle.wt_c.specs.declared.capsule_reader.WtCapsuleReader.{WtCapsuleReader}
use Rattle.wt_c.proofs.capsule_reader.wt_capsule_read.Goals as goal

capsule_step : (p : CapsuleSpan) (r : WtCapsuleReader) (old new : CapsuleCursor) (bytes : List ℕ) → old ≡ cursor_of r → StepIs (Capsule p) old bytes new → CapsulesGoOn (Capsule p) old bytes new
    → Stepped (Capsule p) r bytes (record { skip_remaining = new.skip_remaining })
capsule_step p r old new bytes e s g = record { step_is = rw e at s; goes_on = rw e at g }

pub returns-in-Capsule-clause-capsule : goal.returns-in-Capsule-clause-capsule
returns-in-Capsule-clause-capsule c = λ _. (
  c.in-Capsule.place,
  c.capsule_at.ensures,
  refl,
  capsule_step c.in-Capsule.place c.args.reader.now c.cursor_of-cursor.result c.next-step.new.self c.args.bytes.now c.cursor_of-cursor.ensures c.in-Capsule.ensures.step c.in-Capsule.ensures.capsules,
)
