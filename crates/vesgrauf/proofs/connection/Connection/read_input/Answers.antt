use Rattle.std.proofs.Common.{◌∙◌}
use Rattle.vesgrauf.specs.Items.{items_in}
use Rattle.vesgrauf.specs.Theirs.{Tells, Passes, told_in}
use Rattle.vesgrauf.proofs.ReadsLemmas.{reads_pass}
use Rattle.vesgrauf.proofs.TellsLemmas.{reads_more_tells}
use Rattle.vesgrauf.proofs.StepLemmas.{ok_map}
use Rattle.vesgrauf.proofs.connection.Connection.read_input.Goals as goal

pub returns-in-Some-clause-tells : goal.returns-in-Some-clause-tells
returns-in-Some-clause-tells c = λ h. ok_map c.heard_in_input.result
    (λ s. Passes c.args.id (items_in c.in-Some.heard) (told_in s) c.read.new.self.streams.entries c.count.new.self
    c.heard_in_input.new.self.streams.entries c.heard_in_input.new.input)
    (λ s. Tells (told_in s) c.args.self.now.streams.entries c.args.input.now
    c.heard_in_input.new.self.streams.entries c.heard_in_input.new.input)
    (λ s p. reads_pass c.args.id (items_in c.in-Some.heard) (told_in s) c.args.self.now.streams.entries
    c.read.new.self.streams.entries c.heard_in_input.new.self.streams.entries c.args.input.now c.count.new.self
    c.heard_in_input.new.input h (c.count.ensures.report ∙ h)
    (rw c.count.ensures.chunk (rw c.in-Some.is at c.in_ok-heard.ensures.reads)) p)
    (c.heard_in_input.ensures.passes (c.count.ensures.report ∙ h))

pub returns-in-None-clause-tells : goal.returns-in-None-clause-tells
returns-in-None-clause-tells c = λ h. reads_more_tells c.args.id c.args.self.now.streams.entries
    c.read.new.self.streams.entries c.args.input.now c.count.new.self h (c.count.ensures.report ∙ h)
    (rw c.count.ensures.chunk (rw c.in-None.is at c.in_ok-heard.ensures.reads))
