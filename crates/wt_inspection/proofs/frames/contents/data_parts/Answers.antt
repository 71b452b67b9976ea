use Rattle.std.proofs.Common.{refl}
use Rattle.wt_inspection.specs.declared.reading.Phase.TheVariants.{Session}
use Rattle.wt_inspection.proofs.WalkLemmas.{good_ends, bad_ends}
use Rattle.wt_inspection.proofs.frames.contents.data_parts.Goals.{in-Some, in-None}
use Rattle.wt_inspection.proofs.frames.contents.data_parts.Goals as goal

pub returns-clause-stage : goal.returns-clause-stage
returns-clause-stage c = λ stage h.
    elim c.match-fault.branch [
      | in-Some w ↦ rw w.after-is (bad_ends c.args.at c.in-Session.walk c.add.new.self (Session c.add.new.self) c.args.payload.now c.in_ok-items.field-0 w.in-Some.fault c.args.on stage c.in_ok-items.ensures (cc) (rw c.in-Session.is at h))
      | in-None w ↦ rw w.after-is (good_ends c.args.at c.in-Session.walk c.add.new.self (Session c.add.new.self) c.args.payload.now c.in_ok-items.field-0 c.args.on stage c.in_ok-items.ensures (cc) refl (rw c.in-Session.is at h))
    ]
