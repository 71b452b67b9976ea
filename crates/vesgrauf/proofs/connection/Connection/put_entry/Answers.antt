use Rattle.std.proofs.Common.{rules}
use Rattle.vesgrauf.proofs.JoinedLemmas.{joined_put}
use Rattle.vesgrauf.proofs.PlaceLemmas.{ordered_replaced}
use Rattle.vesgrauf.proofs.connection.Connection.put_entry.Goals as goal

pub invariant_of-self-in-Some-clause-ordered : goal.invariant_of-self-in-Some-clause-ordered
invariant_of-self-in-Some-clause-ordered c = ordered_replaced c.args.self.now.streams c.insert.new.self
    c.args.self.now.ready c.remove.new.self c.args.self.now.unplaced c.args.id c.in-Some.old c.args.entry
    (search (rules)) c.requires.closed (search (rules)) (search (rules)) c.args.self.now.ordered

pub invariant_of-self-in-Some-clause-joined : goal.invariant_of-self-in-Some-clause-joined
invariant_of-self-in-Some-clause-joined c =
    joined_put c.args.self.now.streams c.insert.new.self c.args.self.now.ids c.args.id c.args.entry
    c.requires.free c.requires.alone (search (rules)) c.args.self.now.joined

pub invariant_of-self-in_default-clause-joined : goal.invariant_of-self-in_default-clause-joined
invariant_of-self-in_default-clause-joined c =
    joined_put c.args.self.now.streams c.insert.new.self c.args.self.now.ids c.args.id c.args.entry
    c.requires.free c.requires.alone (search (rules)) c.args.self.now.joined
