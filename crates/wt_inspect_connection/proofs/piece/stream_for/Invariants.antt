use Rattle.std.proofs.Common.{◌≡◌, drop, option_map}
use Rattle.wt_inspect_connection.specs.Pieces.{first_for, first_of}
use Rattle.wt_inspect_connection.proofs.piece.stream_for.Given as goal

abbrev pub invariant-loop-piece : goal.invariant-loop-piece
invariant-loop-piece l =
    first_of (option_map (λ s. (s.0, s.1.now)) l.first) (first_for l.sender l.purpose (drop l.piece-index l.pieces))
    ≡ first_for l.sender l.purpose l.pieces
