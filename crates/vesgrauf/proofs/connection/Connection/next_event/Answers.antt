use Rattle.vesgrauf.proofs.StepLemmas.{quiet_all}
use Rattle.vesgrauf.proofs.connection.Connection.next_event.Goals as goal

pub returns-then-has_nothing_due-clause-told : goal.returns-then-has_nothing_due-clause-told
returns-then-has_nothing_due-clause-told c = λ h. quiet_all c.args.self.now.ids c.args.self.now.streams.entries c.args.input.now
