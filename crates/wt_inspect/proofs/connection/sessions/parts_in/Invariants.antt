use Rattle.std.proofs.Common.{◌≡◌, ◌++◌, drop}
use Rattle.wt_inspect.specs.Connections.{parts_from}
use Rattle.wt_inspect.proofs.connection.sessions.parts_in.Given as goal

abbrev pub invariant-loop-piece : goal.invariant-loop-piece
invariant-loop-piece l = record {
  counts : l.index ≡ l.piece-index;
  so_far : l.parts.items ++ parts_from l.index l.pieces l.sessions (drop l.piece-index l.pieces)
      ≡ parts_from 0 l.pieces l.sessions l.pieces;
}
