use Rattle.vesgrauf.specs.State.{is_over}
use Rattle.vesgrauf.specs.Theirs.{Tells, TellsAll, told_by}
use Rattle.vesgrauf.proofs.TellsLemmas.{accepts_all}
use Rattle.vesgrauf.proofs.StepLemmas.{ok_map, not_before}
use Rattle.vesgrauf.proofs.BoundLemmas.{bound_begun, bound_then, on_ok}
use Rattle.vesgrauf.proofs.KeepsOwnLemmas.{holds_config}
use Rattle.vesgrauf.proofs.connection.Connection.accept_and_step.Goals as goal

pub returns-clause-told : goal.returns-clause-told
returns-clause-told c = λ h. ok_map c.take_steps.result
    (λ e. Tells (told_by e) c.accept_or_fail.new.self.streams.entries c.args.input.now
    c.take_steps.new.self.streams.entries c.take_steps.new.input)
    (λ e. TellsAll c.args.self.now.ids (told_by e) c.args.self.now.streams.entries c.args.input.now
    c.take_steps.new.self.streams.entries c.take_steps.new.input)
    (λ e p. accepts_all c.args.self.now.ids c.accept_or_fail.new.self.ids (told_by e) c.args.self.now.streams.entries
    c.accept_or_fail.new.self.streams.entries c.take_steps.new.self.streams.entries c.args.input.now
    c.take_steps.new.input (c.accept_or_fail.ensures.accepts (not_before (is_over c.accept_or_fail.new.self)
    (is_over c.take_steps.new.self) c.take_steps.ensures.ends h)) p)
    (c.take_steps.ensures.told h)

pub returns-clause-bounded : goal.returns-clause-bounded
returns-clause-bounded c = λ h. on_ok c.take_steps.result
    (λ p. bound_then (bound_begun (c.accept_or_fail.ensures.accepts (not_before (is_over c.accept_or_fail.new.self)
    (is_over c.take_steps.new.self) c.take_steps.ensures.ends h)) (holds_config c.accept_or_fail.ensures.keeps)) p)
    (c.take_steps.ensures.bounded h)
