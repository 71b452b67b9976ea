use Rattle.std.proofs.Common.{None}
use Rattle.vesgrauf.proofs.NotedLemmas.{next_is}
use Rattle.vesgrauf.proofs.connection.ids.Ids.first_member.Goals as goal

pub returns : goal.returns
returns c = rw c.of_session.ensures (next_is c.args.self.now c.args.session None c.first_from.result c.first_from.ensures)
