use Rattle.std.proofs.Common.{◌≡◌, ◌++◌, drop}
use Rattle.wt_inspect_connection.specs.Pieces.{session_ids}
use Rattle.wt_inspect_connection.proofs.piece.session_ids.Given as goal

abbrev pub invariant-loop-piece : goal.invariant-loop-piece
invariant-loop-piece l = l.ids.items ++ session_ids l.pieces (drop l.piece-index l.pieces) ≡ session_ids l.pieces l.pieces
