use Rattle.std.proofs.Common.{[]}
use Rattle.vesgrauf.specs.Keeps.{Keeps}
use Rattle.vesgrauf.proofs.connection.Connection.next_writable.Given as goal

-- so far no byte was added or taken, and none was read
abbrev pub invariant-loop-stream : goal.invariant-loop-stream
invariant-loop-stream l = record { keeps : Keeps [] l.initial.self l.self }
