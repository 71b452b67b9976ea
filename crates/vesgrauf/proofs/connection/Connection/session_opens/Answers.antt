use Rattle.std.proofs.Common.{[], ◌∷◌, refl}
use Rattle.wtp_webtransport.specs.declared.event.HeadersKind.TheVariants as headers
use Rattle.vesgrauf.specs.Items.{Section}
use Rattle.vesgrauf.specs.Theirs.{Hands, told_in}
use Rattle.vesgrauf.proofs.KeepsLemmas.{keeps_left}
use Rattle.vesgrauf.proofs.StepLemmas.{ok_map}
use Rattle.vesgrauf.proofs.TellsLemmas.{left_then_hands}
use Rattle.vesgrauf.proofs.connection.Connection.session_opens.Goals as goal

pub returns-clause-hands : goal.returns-clause-hands
returns-clause-hands c = ok_map c.tell_read.result
    (λ s. Hands c.args.id (Section (headers.Response c.args.status) c.args.list ∷ []) (told_in s) c.note_open.new.self.streams.entries
    c.tell_read.new.self.streams.entries)
    (λ s. Hands c.args.id (Section (headers.Response c.args.status) c.args.list ∷ []) (told_in s) c.args.self.now.streams.entries
    c.tell_read.new.self.streams.entries)
    (λ s p. left_then_hands c.args.id (Section (headers.Response c.args.status) c.args.list ∷ []) s c.args.self.now.streams.entries
    c.note_open.new.self.streams.entries c.tell_read.new.self.streams.entries (keeps_left c.note_open.ensures.keeps) p)
    (c.tell_read.ensures.hands refl)
