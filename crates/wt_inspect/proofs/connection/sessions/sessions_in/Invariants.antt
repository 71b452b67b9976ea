use Rattle.wt_inspect.specs.Connections.{AreSessions}
use Rattle.wt_inspect.proofs.connection.sessions.sessions_in.Given as goal

abbrev pub invariant-loop-piece : goal.invariant-loop-piece
invariant-loop-piece l = AreSessions l.pieces l.ids.items
