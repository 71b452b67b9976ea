use Rattle.vesgrauf.proofs.JoinedLemmas.{unnoted_severed}
use Rattle.vesgrauf.proofs.connection.Connection.has_no_streams.Goals as goal

pub returns : goal.returns
returns c = λ none. unnoted_severed c.args.self.now.streams.entries c.args.self.now.ids c.args.id c.first_member.result
    c.is_none.result c.first_member.ensures c.is_none.ensures none c.args.self.now.joined
