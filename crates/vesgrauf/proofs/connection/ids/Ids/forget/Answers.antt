use Rattle.vesgrauf.proofs.NotedLemmas.{ids_drop}
use Rattle.vesgrauf.proofs.connection.ids.Ids.forget.Goals as goal

pub returns : goal.returns
returns c = ids_drop c.args.self.now c.remove.new.self c.args.session c.args.id c.remove.ensures.updates
