use Rattle.std.proofs.Common.{◌≡◌, drop}
use Rattle.wt_inspect_connection.specs.Pieces.{opening_bytes}
use Rattle.wt_inspect_connection.proofs.piece.opening_bytes.Given as goal

abbrev pub invariant-loop-piece : goal.invariant-loop-piece
invariant-loop-piece l = opening_bytes l.id (drop l.piece-index l.pieces) ≡ opening_bytes l.id l.pieces
