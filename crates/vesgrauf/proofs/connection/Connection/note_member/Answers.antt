use Rattle.std.proofs.Common.{None}
use Rattle.vesgrauf.proofs.MemberLemmas.{keeps_noted}
use Rattle.vesgrauf.proofs.connection.Connection.note_member.Goals as goal

pub returns-in_ok-note-clause-keeps : goal.returns-in_ok-note-clause-keeps
returns-in_ok-note-clause-keeps c = keeps_noted None c.args.self.now.streams.entries c.args.self.now.ids c.note.new.self _
    c.args.self.now.events.items c.args.self.now.config c.args.self.now.ended c.args.session c.args.id
    c.in_ok-note.ensures
