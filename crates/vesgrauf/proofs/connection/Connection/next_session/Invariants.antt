use Rattle.std.proofs.Common.{◌≤◌, ◌-◌, ◌^◌}
use Rattle.vesgrauf.specs.Order.{NoneOpen}
use Rattle.vesgrauf.proofs.connection.Connection.next_session.Given as goal

-- no stream that was looked at is an open session
abbrev pub invariant-streams : goal.invariant-streams
invariant-streams l = record { passed : NoneOpen l.self l.fn.from l.cursor; above : l.fn.from ≤ l.cursor }

abbrev pub decreases-streams : goal.decreases-streams
decreases-streams l = 2 ^ 64 - l.cursor
