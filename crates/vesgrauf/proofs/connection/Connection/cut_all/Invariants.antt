use Rattle.std.proofs.Common.{[]}
use Rattle.vesgrauf.specs.Keeps.{Keeps}
use Rattle.vesgrauf.proofs.CutLemmas.{Cutting, rest}
use Rattle.vesgrauf.proofs.connection.Connection.cut_all.Given as goal

-- no byte was added or taken, and none was read; each stream of the session is cut, or comes next or later
abbrev pub invariant-members : goal.invariant-members
invariant-members l = record {
  keeps : Keeps [] l.initial.self l.self;
  cutting : Cutting l.fn.session l.initial.self.ids l.next l.self.streams.entries l.self.ids;
}

abbrev pub decreases-members : goal.decreases-members
decreases-members l = rest l.next
