use Rattle.vesgrauf.specs.Items.{items_in}
use Rattle.vesgrauf.specs.Theirs.{Hands, TellsKept, told_in}
use Rattle.vesgrauf.proofs.ReadsLemmas.{kept_hands}
use Rattle.vesgrauf.proofs.TellsLemmas.{more_kept, none_kept}
use Rattle.vesgrauf.proofs.StepLemmas.{ok_map}
use Rattle.vesgrauf.proofs.connection.Connection.read_kept.Goals as goal

pub returns-then-not-is_read-clause-tells : goal.returns-then-not-is_read-clause-tells
returns-then-not-is_read-clause-tells c = none_kept c.args.self.now.streams.entries

pub returns-in-None-clause-tells : goal.returns-in-None-clause-tells
returns-in-None-clause-tells c =
    more_kept c.args.id c.args.self.now.streams.entries c.read_rest.new.self.streams.entries
    (rw c.in-None.is at c.in_ok-read_rest.ensures.reads)

pub returns-in-Some-clause-tells : goal.returns-in-Some-clause-tells
returns-in-Some-clause-tells c = ok_map c.heard_in_kept.result
    (λ s. Hands c.args.id (items_in c.in-Some.heard) (told_in s) c.read_rest.new.self.streams.entries
    c.heard_in_kept.new.self.streams.entries)
    (λ s. TellsKept (told_in s) c.args.self.now.streams.entries c.heard_in_kept.new.self.streams.entries)
    (λ s p. kept_hands c.args.id (items_in c.in-Some.heard) (told_in s) c.args.self.now.streams.entries
    c.read_rest.new.self.streams.entries c.heard_in_kept.new.self.streams.entries
    (rw c.in-Some.is at c.in_ok-read_rest.ensures.reads) p)
    c.heard_in_kept.ensures.hands
