use Rattle.std.proofs.Common.{◌∙◌, ap, Some}
use Rattle.std.specs.Prelude.{Ok}
use Rattle.vesgrauf.specs.Theirs.{Tells, TellsAll, told_by}
use Rattle.vesgrauf.proofs.BoundLemmas.{bound_then, on_ok}
use Rattle.vesgrauf.proofs.TellsLemmas.{all_of}
use Rattle.vesgrauf.proofs.StepLemmas.{ok_map, told_none_all, quiet_then_all, told_none_if, told_told_if, told_more_if, told_nothing_if}
use Rattle.vesgrauf.proofs.KeepsOwnLemmas.{keeps_holds, holds_then}
use Rattle.vesgrauf.specs.State.{is_over}
use Rattle.vesgrauf.specs.Works.{book_of}
use Rattle.vesgrauf.proofs.ActLemmas.{act_over_then, act_trans}
use Rattle.vesgrauf.proofs.connection.Connection.read_now.Goals as goal

pub returns-in-Ok-None-clause-told : goal.returns-in-Ok-None-clause-told
returns-in-Ok-None-clause-told c = λ h g. ok_map c.next_by_steps.result
    (λ e. TellsAll c.step_at_once.new.self.ids (told_by e) c.step_at_once.new.self.streams.entries
    c.step_at_once.new.input c.next_by_steps.new.self.streams.entries c.next_by_steps.new.input)
    (λ e. TellsAll c.args.self.now.ids (told_by e) c.args.self.now.streams.entries c.args.input.now
    c.next_by_steps.new.self.streams.entries c.next_by_steps.new.input)
    (λ e p. told_none_all (told_by e) (told_none_if
    (rw (c.in-Ok-None.is ∙ ap (λ x. Ok x) c.in-Ok-None.field-0-is) at (c.step_at_once.ensures.tells h)))
    (c.step_at_once.ensures.none (c.in-Ok-None.is ∙ ap (λ x. Ok x) c.in-Ok-None.field-0-is)).0
    (c.step_at_once.ensures.none (c.in-Ok-None.is ∙ ap (λ x. Ok x) c.in-Ok-None.field-0-is)).1 p)
    (c.next_by_steps.ensures.told g)

pub returns-in-Ok-Some-Told-clause-told : goal.returns-in-Ok-Some-Told-clause-told
returns-in-Ok-Some-Told-clause-told c = λ h g. all_of c.args.self.now.ids (told_by (Some c.in-Ok-Some-Told.event))
    c.args.self.now.streams.entries c.step_at_once.new.self.streams.entries c.args.input.now c.step_at_once.new.input
    (told_told_if c.in-Ok-Some-Told.event
    (rw (c.in-Ok-Some-Told.is ∙ ap (λ x. Ok x) (c.in-Ok-Some-Told.field-0-is
    ∙ ap (λ x. Some x) c.in-Ok-Some-Told.field-0-0-is)) at (c.step_at_once.ensures.tells h)))

pub returns-in-Ok-Some-More-clause-told : goal.returns-in-Ok-Some-More-clause-told
returns-in-Ok-Some-More-clause-told c = λ h g. ok_map c.take_steps.result
    (λ e. Tells (told_by e) c.step_at_once.new.self.streams.entries c.step_at_once.new.input
    c.take_steps.new.self.streams.entries c.take_steps.new.input)
    (λ e. TellsAll c.args.self.now.ids (told_by e) c.args.self.now.streams.entries c.args.input.now
    c.take_steps.new.self.streams.entries c.take_steps.new.input)
    (λ e p. quiet_then_all c.args.self.now.ids (told_by e) (told_more_if
    (rw (c.in-Ok-Some-More.is ∙ ap (λ x. Ok x) (c.in-Ok-Some-More.field-0-is
    ∙ ap (λ x. Some x) c.in-Ok-Some-More.field-0-0-is)) at (c.step_at_once.ensures.tells h))) p)
    (c.take_steps.ensures.told g)

pub returns-in-Ok-Some-Nothing-clause-told : goal.returns-in-Ok-Some-Nothing-clause-told
returns-in-Ok-Some-Nothing-clause-told c = λ h g. ok_map c.take_steps-in-Ok-Some-Nothing.result
    (λ e. Tells (told_by e) c.step_at_once.new.self.streams.entries c.step_at_once.new.input
    c.take_steps-in-Ok-Some-Nothing.new.self.streams.entries c.take_steps-in-Ok-Some-Nothing.new.input)
    (λ e. TellsAll c.args.self.now.ids (told_by e) c.args.self.now.streams.entries c.args.input.now
    c.take_steps-in-Ok-Some-Nothing.new.self.streams.entries c.take_steps-in-Ok-Some-Nothing.new.input)
    (λ e p. quiet_then_all c.args.self.now.ids (told_by e) (told_nothing_if
    (rw (c.in-Ok-Some-Nothing.is ∙ ap (λ x. Ok x) (c.in-Ok-Some-Nothing.field-0-is
    ∙ ap (λ x. Some x) c.in-Ok-Some-Nothing.field-0-0-is)) at (c.step_at_once.ensures.tells h))) p)
    (c.take_steps-in-Ok-Some-Nothing.ensures.told g)

pub returns-in-Err-Broken-clause-keeps : goal.returns-in-Err-Broken-clause-keeps
returns-in-Err-Broken-clause-keeps c = holds_then (holds_then (rw c.in-Err-Broken.is at c.step_at_once.ensures.keeps)
    (keeps_holds c.fail.ensures.keeps)) c.take_steps-in-Err-Broken.ensures.keeps

pub returns-in-Ok-None-clause-bounded : goal.returns-in-Ok-None-clause-bounded
returns-in-Ok-None-clause-bounded c = λ h. on_ok c.next_by_steps.result
    (bound_then (rw c.in-Ok-None.is at c.step_at_once.ensures.bounded)) (c.next_by_steps.ensures.bounded h)

pub returns-in-Ok-Some-More-clause-bounded : goal.returns-in-Ok-Some-More-clause-bounded
returns-in-Ok-Some-More-clause-bounded c = λ h. on_ok c.take_steps.result
    (bound_then (rw c.in-Ok-Some-More.is at c.step_at_once.ensures.bounded)) (c.take_steps.ensures.bounded h)

pub returns-in-Ok-Some-Nothing-clause-bounded : goal.returns-in-Ok-Some-Nothing-clause-bounded
returns-in-Ok-Some-Nothing-clause-bounded c = λ h. on_ok c.take_steps-in-Ok-Some-Nothing.result
    (bound_then (rw c.in-Ok-Some-Nothing.is at c.step_at_once.ensures.bounded)) (c.take_steps-in-Ok-Some-Nothing.ensures.bounded h)

pub returns-in-Ok-None-clause-works : goal.returns-in-Ok-None-clause-works
returns-in-Ok-None-clause-works c = on_ok c.next_by_steps.result
    (act_trans (rw c.in-Ok-None.is at c.step_at_once.ensures.works)) c.next_by_steps.ensures.works

pub returns-in-Err-Broken-clause-works : goal.returns-in-Err-Broken-clause-works
returns-in-Err-Broken-clause-works c = on_ok c.take_steps-in-Err-Broken.result
    (act_over_then (is_over c.args.self.now) (book_of c.args.self.now) c.fail.ensures.over)
    c.take_steps-in-Err-Broken.ensures.works
