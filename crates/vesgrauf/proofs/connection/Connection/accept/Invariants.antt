use Rattle.std.proofs.Common.{[]}
use Rattle.vesgrauf.specs.Keeps.{KeepsOwn}
use Rattle.vesgrauf.specs.Theirs.{Accepts}
use Rattle.vesgrauf.specs.Works.{WorksOn}
use Rattle.vesgrauf.proofs.connection.Connection.accept.Given as goal

-- so far no byte was added or taken, and only streams of the peer came to be
abbrev pub invariant-loop-stream : goal.invariant-loop-stream
invariant-loop-stream l = record {
  keeps : KeepsOwn [] l.initial.self l.self;
  accepts : Accepts l.initial.self.ids l.initial.self.streams.entries l.self.ids l.self.streams.entries;
  works : WorksOn l.initial.self l.self;
}
