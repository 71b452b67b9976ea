use Rattle.wtp_webtransport.specs.Events.{told_of}
use Rattle.vesgrauf.specs.Items.{items_of}
use Rattle.vesgrauf.specs.Theirs.{Hands, IsSilent, told_in}
use Rattle.vesgrauf.proofs.TellsLemmas.{silent_hands}
use Rattle.vesgrauf.proofs.StepLemmas.{ok_map}
use Rattle.vesgrauf.proofs.connection.Connection.said.Goals as goal

pub returns-clause-hands : goal.returns-clause-hands
returns-clause-hands c = ok_map c.said_else.result (λ s. IsSilent s)
    (λ s. Hands c.args.id (items_of (told_of c.args.event)) (told_in s) c.args.self.now.streams.entries
    c.said_else.new.self.streams.entries)
    (λ s p. silent_hands c.args.id (items_of (told_of c.args.event)) s c.args.self.now.streams.entries
    c.said_else.new.self.streams.entries (c.says_items.ensures c.if-says_items.false) p c.said_else.ensures.left)
    c.said_else.ensures.silent
