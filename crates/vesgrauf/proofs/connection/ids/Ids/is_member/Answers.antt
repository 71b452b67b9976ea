use Rattle.std.proofs.Common.{◌∙◌}
use Rattle.vesgrauf.proofs.NotedLemmas.{has_noted}
use Rattle.vesgrauf.proofs.connection.ids.Ids.is_member.Goals as goal

pub returns : goal.returns
returns c = c.contains.ensures ∙ has_noted c.args.self.now.members (record { session = c.args.session; id = c.args.id })
