use Rattle.std.proofs.Common.{◌≡◌, [], true, false, None}
use Rattle.vesgrauf.specs.Bounds.{KeepsBound}
use Rattle.vesgrauf.specs.Keeps.{KeepsOwn}
use Rattle.vesgrauf.specs.State.{is_over, IsAfterEnd}
use Rattle.vesgrauf.specs.Theirs.{Tells, told_by}
use Rattle.vesgrauf.specs.Works.{WorksOn}
use Rattle.vesgrauf.proofs.connection.Connection.take_steps.Given as goal

-- so far no byte was added or taken, and nothing was told, and no more is kept than may
abbrev pub invariant-loop-step : goal.invariant-loop-step
invariant-loop-step l = record {
  keeps : KeepsOwn [] l.initial.self l.self;
  told : is_over l.self ≡ false → Tells (told_by None)
      l.initial.self.streams.entries l.initial.input l.self.streams.entries l.input;
  ends : is_over l.initial.self ≡ true → is_over l.self ≡ true;
  bounded : is_over l.self ≡ false → KeepsBound l.initial.self l.self;
  over : IsAfterEnd l.initial.self → IsAfterEnd l.self;
  works : WorksOn l.initial.self l.self;
}
