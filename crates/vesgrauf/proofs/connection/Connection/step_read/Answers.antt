use Rattle.vesgrauf.specs.Theirs.{Tells, TellsKept, told_in}
use Rattle.vesgrauf.proofs.ReadsLemmas.{kept_tells}
use Rattle.vesgrauf.specs.Bounds.{KeepsBound}
use Rattle.vesgrauf.proofs.BoundLemmas.{bound_kept, ok_on}
use Rattle.vesgrauf.proofs.KeepsOwnLemmas.{holds_config}
use Rattle.vesgrauf.proofs.StepLemmas.{ok_map}
use Rattle.vesgrauf.proofs.connection.Connection.step_read.Goals as goal

pub returns-in-Some-clause-tells : goal.returns-in-Some-clause-tells
returns-in-Some-clause-tells c = ok_map c.read_kept.result
    (λ s. TellsKept (told_in s) c.args.self.now.streams.entries c.read_kept.new.self.streams.entries)
    (λ s. Tells (told_in s) c.args.self.now.streams.entries c.args.input.now
    c.read_kept.new.self.streams.entries c.args.input.now)
    (λ s p. kept_tells (told_in s) c.args.self.now.streams.entries c.read_kept.new.self.streams.entries
    c.args.input.now p) c.read_kept.ensures.tells

pub returns-in-Some-clause-bounded : goal.returns-in-Some-clause-bounded
returns-in-Some-clause-bounded c = ok_on c.read_kept.result
    (λ s. TellsKept (told_in s) c.args.self.now.streams.entries c.read_kept.new.self.streams.entries)
    (KeepsBound c.args.self.now c.read_kept.new.self)
    (λ s t. bound_kept (told_in s) c.args.self.now.config c.args.self.now.streams.entries c.read_kept.new.self.config
    c.read_kept.new.self.streams.entries t (holds_config c.read_kept.ensures.keeps)) c.read_kept.ensures.tells
