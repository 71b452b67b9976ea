use Rattle.vesgrauf.proofs.KeepsLemmas.{keeps_left, keeps_then}
use Rattle.vesgrauf.proofs.KeepsOwnLemmas.{keeps_holds, holds_then}
use Rattle.vesgrauf.proofs.TellsLemmas.{left_tells}
use Rattle.vesgrauf.specs.Theirs.{Tells, told_in}
use Rattle.vesgrauf.proofs.StepLemmas.{left_trans, left_then_tells, ok_map}
use Rattle.vesgrauf.proofs.connection.Connection.step_due.Goals as goal

pub returns-in-Some-clause-tells : goal.returns-in-Some-clause-tells
returns-in-Some-clause-tells c =
    left_tells c.step_opened.result c.args.self.now.streams.entries c.step_opened.new.self.streams.entries
    c.args.input.now c.step_opened.ensures.silent (left_trans (keeps_left c.session_opened.ensures.keeps) (keeps_left c.step_opened.ensures.keeps))

pub returns-clause-tells : goal.returns-clause-tells
returns-clause-tells c = ok_map c.step_read.result
    (λ s. Tells (told_in s) c.session_opened.new.self.streams.entries c.args.input.now
    c.step_read.new.self.streams.entries c.step_read.new.input)
    (λ s. Tells (told_in s) c.args.self.now.streams.entries c.args.input.now
    c.step_read.new.self.streams.entries c.step_read.new.input)
    (λ s p. left_then_tells (told_in s) (keeps_left c.session_opened.ensures.keeps) p)
    c.step_read.ensures.tells

pub returns-in-Some-clause-keeps : goal.returns-in-Some-clause-keeps
returns-in-Some-clause-keeps c = keeps_holds (keeps_then c.session_opened.ensures.keeps c.step_opened.ensures.keeps)

pub returns-clause-keeps : goal.returns-clause-keeps
returns-clause-keeps c = holds_then (keeps_holds c.session_opened.ensures.keeps) c.step_read.ensures.keeps
