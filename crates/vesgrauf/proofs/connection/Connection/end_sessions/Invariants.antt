use Rattle.std.proofs.Common.{◌≡◌, []}
use Rattle.vesgrauf.specs.Theirs.{Left}
use Rattle.vesgrauf.specs.Told.{GoesOn}
use Rattle.vesgrauf.specs.Works.{WorksOn}
use Rattle.vesgrauf.proofs.connection.Connection.end_sessions.Given as goal

abbrev pub invariant-loop-session : goal.invariant-loop-session
invariant-loop-session l = record {
  goes : GoesOn [] l.initial.self l.self;
  left : Left l.initial.self.streams.entries l.self.streams.entries;
  config : l.self.config ≡ l.initial.self.config;
  works : WorksOn l.initial.self l.self;
}
