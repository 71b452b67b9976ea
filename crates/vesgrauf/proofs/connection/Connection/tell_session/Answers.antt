use Rattle.std.proofs.Common.{[], ◌∷◌, refl}
use Rattle.vesgrauf.specs.Items.{Asks}
use Rattle.vesgrauf.specs.Theirs.{Hands, told_in}
use Rattle.vesgrauf.proofs.KeepsLemmas.{keeps_left}
use Rattle.vesgrauf.proofs.StepLemmas.{ok_map}
use Rattle.vesgrauf.proofs.TellsLemmas.{left_then_hands}
use Rattle.vesgrauf.proofs.connection.Connection.tell_session.Goals as goal

pub returns-clause-hands : goal.returns-clause-hands
returns-clause-hands c = ok_map c.tell_read.result
    (λ s. Hands c.args.id (Asks c.args.list ∷ []) (told_in s) c.begin_session.new.self.streams.entries
    c.tell_read.new.self.streams.entries)
    (λ s. Hands c.args.id (Asks c.args.list ∷ []) (told_in s) c.args.self.now.streams.entries
    c.tell_read.new.self.streams.entries)
    (λ s p. left_then_hands c.args.id (Asks c.args.list ∷ []) s c.args.self.now.streams.entries
    c.begin_session.new.self.streams.entries c.tell_read.new.self.streams.entries (keeps_left c.begin_session.ensures.keeps) p)
    (c.tell_read.ensures.hands refl)
