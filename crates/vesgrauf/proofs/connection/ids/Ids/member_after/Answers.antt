use Rattle.std.proofs.Common.{Some}
use Rattle.vesgrauf.proofs.NotedLemmas.{next_is}
use Rattle.vesgrauf.proofs.connection.ids.Ids.member_after.Goals as goal

pub returns : goal.returns
returns c = rw c.of_session.ensures (next_is c.args.self.now c.args.session (Some c.args.id) c.first_after.result c.first_after.ensures)
