use Rattle.vesgrauf.proofs.NotedLemmas.{ids_note}
use Rattle.vesgrauf.proofs.connection.ids.Ids.note.Goals as goal

pub returns-in-Ok : goal.returns-in-Ok
returns-in-Ok c = ids_note c.args.self.now c.insert.new.self c.args.session c.args.id c.in-Ok.ensures.updates
