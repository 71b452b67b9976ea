use Rattle.std.proofs.Common.{ap, refl}
use Rattle.vesgrauf.specs.Theirs.{TellsAll, told_by}
use Rattle.vesgrauf.proofs.StepLemmas.{ok_map, all_same}
use Rattle.vesgrauf.proofs.KeepsOwnLemmas.{keeps_holds, holds_then}
use Rattle.vesgrauf.proofs.connection.Connection.next_by_steps.Goals as goal

pub returns-clause-told : goal.returns-clause-told
returns-clause-told c = λ h. ok_map c.accept_and_step.result
    (λ e. TellsAll c.first_queued.new.self.ids (told_by e) c.first_queued.new.self.streams.entries c.args.input.now
    c.accept_and_step.new.self.streams.entries c.accept_and_step.new.input)
    (λ e. TellsAll c.args.self.now.ids (told_by e) c.args.self.now.streams.entries c.args.input.now
    c.accept_and_step.new.self.streams.entries c.accept_and_step.new.input)
    (λ e p. all_same (told_by e) c.first_queued.ensures.ids (ap (λ m. m.entries) c.first_queued.ensures.streams) refl p)
    (c.accept_and_step.ensures.told h)

pub returns-clause-keeps : goal.returns-clause-keeps
returns-clause-keeps c = holds_then (keeps_holds (rw c.in_default.is at c.first_queued.ensures.keeps))
    c.accept_and_step.ensures.keeps
