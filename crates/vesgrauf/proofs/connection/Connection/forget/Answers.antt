use Rattle.vesgrauf.proofs.JoinedLemmas.{joined_dropped}
use Rattle.vesgrauf.proofs.connection.Connection.forget.Goals as goal

pub invariant_of-self-2-clause-joined : goal.invariant_of-self-2-clause-joined
invariant_of-self-2-clause-joined c = joined_dropped c.args.self.now.streams.entries c.args.self.now.ids c.forget.new.self
    c.in-Some.session c.args.id c.requires c.forget.ensures c.args.self.now.joined
