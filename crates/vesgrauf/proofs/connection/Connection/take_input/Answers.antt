use Rattle.vesgrauf.specs.Theirs.{Tells, IsSilent, told_in}
use Rattle.vesgrauf.proofs.KeepsLemmas.{keeps_left}
use Rattle.vesgrauf.proofs.TellsLemmas.{left_tells}
use Rattle.vesgrauf.proofs.StepLemmas.{ok_map}
use Rattle.vesgrauf.proofs.connection.Connection.take_input.Goals as goal

pub returns-in-Nothing-clause-tells : goal.returns-in-Nothing-clause-tells
returns-in-Nothing-clause-tells c = ok_map c.step_alone.result (λ s. IsSilent s)
    (λ s. Tells (told_in s) c.args.self.now.streams.entries c.args.input.now
    c.step_alone.new.self.streams.entries c.args.input.now)
    (λ s h. left_tells s c.args.self.now.streams.entries c.step_alone.new.self.streams.entries c.args.input.now h
    (keeps_left c.step_alone.ensures.keeps)) c.step_alone.ensures.silent
