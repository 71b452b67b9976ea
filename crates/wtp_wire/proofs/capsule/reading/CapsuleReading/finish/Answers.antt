use Rattle.std.proofs.Common.{take, refl, inl, inr, arith, length-take}
use Rattle.wtp_wire.proofs.CapsuleReadingLemmas.{ends_clean, ends_cut}
use Rattle.wtp_wire.proofs.capsule.reading.CapsuleReading.finish.Goals as goal
use Rattle.wtp_wire.proofs.capsule.reading.CapsuleReading.finish.Goals.{then-self-gt0-via-then-self-gt0, then-self-gt0-via-else-self-gt0+then-self-gt0-2}

pub returns-then-self-gt0 : goal.returns-then-self-gt0
returns-then-self-gt0 c = (
  λ f. absurd (cc),
  λ e. absurd (
      ends_cut (take c.self.inside.part.len c.self.inside.part.head) c.self.inside.part.value.items c.self.inside.part.skip_remaining c.self.invariant.2
      (elim c.then-self-gt0.branch [
        | then-self-gt0-via-then-self-gt0 w ↦ inl (omega (arith, c.self.invariant.0, c.self.invariant.1, length-take c.self.inside.part.len c.self.inside.part.head))
        | then-self-gt0-via-else-self-gt0+then-self-gt0-2 w ↦ inr w.if-self-gt0-2.true
      ])
      (rw (← c.self.view_is) at e)
      ),
)

pub returns : goal.returns
returns c = (λ f. rw (← c.self.view_is) (ends_clean (take c.self.inside.part.len c.self.inside.part.head) c.self.inside.part.value.items c.self.inside.part.skip_remaining c.self.invariant.2 (omega (arith, length-take c.self.inside.part.len c.self.inside.part.head)) (omega arith)), λ e. refl)
