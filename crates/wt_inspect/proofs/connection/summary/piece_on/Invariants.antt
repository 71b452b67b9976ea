use Rattle.std.proofs.Common.{◌≡◌, drop}
use Rattle.wt_inspect.specs.SessionsShown.{piece_on}
use Rattle.wt_inspect.proofs.connection.summary.piece_on.Given as goal

abbrev pub invariant-loop-piece : goal.invariant-loop-piece
invariant-loop-piece l = piece_on l.sender l.id (drop l.piece-index l.pieces) ≡ piece_on l.sender l.id l.pieces
