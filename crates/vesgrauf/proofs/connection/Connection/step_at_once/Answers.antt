use Rattle.std.proofs.Common.{◌∙◌, refl, None, Some}
use Rattle.vesgrauf.specs.Items.{items_found}
use Rattle.vesgrauf.specs.Theirs.{told_if}
use Rattle.vesgrauf.proofs.ReadsLemmas.{reads_pass}
use Rattle.vesgrauf.proofs.TellsLemmas.{reads_tell}
use Rattle.vesgrauf.proofs.connection.Connection.step_at_once.Goals as goal

pub returns-in-None-clause-tells : goal.returns-in-None-clause-tells
returns-in-None-clause-tells c = λ h. reads_tell c.args.id (told_if None) c.args.self.now.streams.entries
    c.read_plain.new.self.streams.entries c.args.input.now
    (record { report = c.args.input.now.report; chunk = c.read_plain.new.chunk; credit = c.args.input.now.credit })
    h h (λ k. refl) (rw c.in-None.is at c.in_ok-read_plain.ensures.reads)

pub returns-in_ok-found_in_input-in-Some-clause-tells : goal.returns-in_ok-found_in_input-in-Some-clause-tells
returns-in_ok-found_in_input-in-Some-clause-tells c = λ h. reads_pass c.args.id (items_found c.in-Some.found)
    (told_if (Some c.in_ok-found_in_input-in-Some.field-0)) c.args.self.now.streams.entries
    c.read_plain.new.self.streams.entries c.found_in_input.new.self.streams.entries c.args.input.now c.count.new.self
    c.found_in_input.new.input h (c.count.ensures.report ∙ h)
    (rw c.count.ensures.chunk (rw c.in-Some.is at c.in_ok-read_plain.ensures.reads))
    (record { each = λ k. (c.in_ok-found_in_input-in-Some.ensures.passes (c.count.ensures.report ∙ h)).each k })
