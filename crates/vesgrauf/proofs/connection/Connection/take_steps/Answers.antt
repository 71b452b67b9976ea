use Rattle.std.proofs.Common.{◌∙◌, [], ap, sym, Some, None, arith}
use Rattle.std.specs.Prelude.{is_some}
use Rattle.vesgrauf.specs.Keeps.{KeepsOwn}
use Rattle.vesgrauf.specs.State.{is_over}
use Rattle.vesgrauf.specs.Theirs.{told_by}
use Rattle.vesgrauf.proofs.BoundLemmas.{bound_popped}
use Rattle.vesgrauf.proofs.KeepsOwnLemmas.{holds_popped, holds_then, keeps_holds}
use Rattle.vesgrauf.proofs.StepLemmas.{steps_on, not_before, popped_after, queued_tells}
use Rattle.vesgrauf.proofs.ActLemmas.{act_keeps, act_trans}
use Rattle.vesgrauf.proofs.connection.Connection.take_steps.Goals as goal

pub returns-in-Told-clause-told : goal.returns-in-Told-clause-told
returns-in-Told-clause-told c = λ h. steps_on (told_by (Some c.in-Told.event)) (is_over c.loop-step.self)
    (is_over c.first_queued.new.self) (is_over c.try_step.new.self) c.loop-step.invariant.told
    (ap is_some c.first_queued.ensures.ended) c.try_step.ensures.ends h
    (ap (λ m. m.entries) c.first_queued.ensures.streams) (rw c.in-Told.is at (c.in_ok-event.ensures.told h))

pub returns-in-Nothing-clause-told : goal.returns-in-Nothing-clause-told
returns-in-Nothing-clause-told c = λ h. steps_on (told_by None) (is_over c.loop-step.self)
    (is_over c.first_queued.new.self) (is_over c.try_step.new.self) c.loop-step.invariant.told
    (ap is_some c.first_queued.ensures.ended) c.try_step.ensures.ends h
    (ap (λ m. m.entries) c.first_queued.ensures.streams) (rw c.in-Nothing.is at (c.in_ok-event.ensures.told h))

pub returns-in-Told-clause-bounded : goal.returns-in-Told-clause-bounded
returns-in-Told-clause-bounded c = λ h. bound_popped c.args.self.now c.loop-step.self c.first_queued.new.self
    c.try_step.new.self (c.loop-step.invariant.bounded (sym (ap is_some c.first_queued.ensures.ended)
    ∙ not_before (is_over c.first_queued.new.self) (is_over c.try_step.new.self) c.try_step.ensures.ends h))
    c.first_queued.ensures.keeps (c.in_ok-event.ensures.bounded h)

pub returns-in-Nothing-clause-bounded : goal.returns-in-Nothing-clause-bounded
returns-in-Nothing-clause-bounded c = λ h. bound_popped c.args.self.now c.loop-step.self c.first_queued.new.self
    c.try_step.new.self (c.loop-step.invariant.bounded (sym (ap is_some c.first_queued.ensures.ended)
    ∙ not_before (is_over c.first_queued.new.self) (is_over c.try_step.new.self) c.try_step.ensures.ends h))
    c.first_queued.ensures.keeps (c.in_ok-event.ensures.bounded h)

pub returns-in-Told-clause-keeps : goal.returns-in-Told-clause-keeps
returns-in-Told-clause-keeps c = holds_then (holds_then c.loop-step.invariant.keeps
    (keeps_holds (rw c.in_default.is at c.first_queued.ensures.keeps)))
    (rw c.in-Told.is at c.in_ok-event.ensures.keeps)

pub returns-in-Nothing-clause-keeps : goal.returns-in-Nothing-clause-keeps
returns-in-Nothing-clause-keeps c = holds_then (holds_then c.loop-step.invariant.keeps
    (keeps_holds (rw c.in_default.is at c.first_queued.ensures.keeps)))
    (rw c.in-Nothing.is at c.in_ok-event.ensures.keeps)

pub returns-in_err-check_settled-in-Nothing-clause-keeps : goal.returns-in_err-check_settled-in-Nothing-clause-keeps
returns-in_err-check_settled-in-Nothing-clause-keeps c =
    let h : KeepsOwn [] c.args.self.now c.try_step.new.self = holds_then (holds_then c.loop-step.invariant.keeps
    (keeps_holds (rw c.in_default.is at c.first_queued.ensures.keeps)))
    (rw c.in-Nothing.is at c.in_ok-event.ensures.keeps) in
    grind (arith, h)

pub returns-in_err-event-clause-keeps : goal.returns-in_err-event-clause-keeps
returns-in_err-event-clause-keeps c =
    let h : KeepsOwn [] c.args.self.now c.try_step.new.self = holds_then (holds_then c.loop-step.invariant.keeps
    (keeps_holds (rw c.in_default.is at c.first_queued.ensures.keeps)))
    c.in_err-event.ensures.keeps in
    grind (arith, h)

pub loop-step-preserved : goal.loop-step-preserved
loop-step-preserved c = record {
  told = λ h. steps_on (told_by None) (is_over c.loop-step.self)
      (is_over c.first_queued.new.self) (is_over c.try_step.new.self) c.loop-step.invariant.told
      (ap is_some c.first_queued.ensures.ended) c.try_step.ensures.ends h
      (ap (λ m. m.entries) c.first_queued.ensures.streams) (rw c.in-More.is at (c.in_ok-event.ensures.told h));
  ends = λ h. c.try_step.ensures.ends (ap is_some c.first_queued.ensures.ended ∙ c.loop-step.invariant.ends h);
  over = λ h. c.try_step.ensures.over (popped_after c.first_queued.ensures.ended c.first_queued.ensures.events
      (c.loop-step.invariant.over h));
  bounded = λ h. bound_popped c.args.self.now c.loop-step.self c.first_queued.new.self c.try_step.new.self
      (c.loop-step.invariant.bounded (sym (ap is_some c.first_queued.ensures.ended)
      ∙ not_before (is_over c.first_queued.new.self) (is_over c.try_step.new.self) c.try_step.ensures.ends h))
      c.first_queued.ensures.keeps (c.in_ok-event.ensures.bounded h);
  keeps = holds_popped c.args.self.now c.loop-step.self c.first_queued.new.self c.try_step.new.self
      c.loop-step.invariant.keeps (rw c.in_default.is at c.first_queued.ensures.keeps) (rw c.in-More.is at c.in_ok-event.ensures.keeps);
  works = act_trans (act_trans c.loop-step.invariant.works (act_keeps c.first_queued.ensures.keeps)) c.in_ok-event.ensures.works;
}

pub returns-in-Some-clause-told : goal.returns-in-Some-clause-told
returns-in-Some-clause-told c = λ h. steps_on (told_by (Some c.in-Some.event)) (is_over c.loop-step.self)
    (is_over c.first_queued.new.self) (is_over c.first_queued.new.self) c.loop-step.invariant.told
    (ap is_some c.first_queued.ensures.ended) (λ g. g) h (ap (λ m. m.entries) c.first_queued.ensures.streams)
    (queued_tells c.in-Some.event c.first_queued.new.self.streams.entries c.loop-step.input
    (rw c.in-Some.is at c.first_queued.ensures.silent))

pub returns-in-Some-clause-works : goal.returns-in-Some-clause-works
returns-in-Some-clause-works c = act_trans c.loop-step.invariant.works (act_keeps c.first_queued.ensures.keeps)

pub returns-in-Told-clause-works : goal.returns-in-Told-clause-works
returns-in-Told-clause-works c = act_trans (act_trans c.loop-step.invariant.works (act_keeps c.first_queued.ensures.keeps)) c.in_ok-event.ensures.works

pub returns-in-Nothing-clause-works : goal.returns-in-Nothing-clause-works
returns-in-Nothing-clause-works c = act_trans (act_trans c.loop-step.invariant.works (act_keeps c.first_queued.ensures.keeps)) c.in_ok-event.ensures.works
