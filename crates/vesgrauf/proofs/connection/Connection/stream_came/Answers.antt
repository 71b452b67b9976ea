use Rattle.std.proofs.Common.{◌∙◌}
use Rattle.vesgrauf.specs.Theirs.{Tells, told_in}
use Rattle.vesgrauf.proofs.KeepsLemmas.{keeps_left, keeps_then}
use Rattle.vesgrauf.proofs.KeepsOwnLemmas.{keeps_holds, holds_then}
use Rattle.vesgrauf.proofs.ReadsLemmas.{same_tells}
use Rattle.vesgrauf.proofs.TellsLemmas.{same_left}
use Rattle.vesgrauf.proofs.StepLemmas.{ok_map}
use Rattle.vesgrauf.proofs.connection.Connection.stream_came.Goals as goal

pub returns-clause-tells : goal.returns-clause-tells
returns-clause-tells c = λ h. ok_map c.bytes_came.result
    (λ s. Tells (told_in s) c.note_end.new.self.streams.entries c.instruct.new.input
    c.bytes_came.new.self.streams.entries c.bytes_came.new.input)
    (λ s. Tells (told_in s) c.args.self.now.streams.entries c.args.input.now
    c.bytes_came.new.self.streams.entries c.bytes_came.new.input)
    (λ s p. same_tells (told_in s) c.args.self.now.streams.entries c.note_end.new.self.streams.entries
    c.bytes_came.new.self.streams.entries c.args.input.now c.instruct.new.input c.bytes_came.new.input
    (same_left c.args.self.now.streams.entries c.instruct.new.self.streams.entries c.note_end.new.self.streams.entries
    c.args.input.now c.instruct.new.input (c.in_ok-instruct.ensures.same h) (keeps_left c.note_end.ensures.keeps)) p)
    (c.bytes_came.ensures.tells (c.instruct.ensures.report ∙ h))

pub returns-clause-keeps : goal.returns-clause-keeps
returns-clause-keeps c = holds_then (keeps_holds (keeps_then c.instruct.ensures.keeps c.note_end.ensures.keeps))
    c.bytes_came.ensures.keeps
