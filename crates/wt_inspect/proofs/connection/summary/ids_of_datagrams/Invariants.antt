use Rattle.std.proofs.Common.{◌≡◌, ◌++◌, drop}
use Rattle.wt_inspect.specs.SessionsShown.{datagram_names, ids_by}
use Rattle.wt_inspect.proofs.connection.summary.ids_of_datagrams.Given as goal

abbrev pub invariant-loop-piece : goal.invariant-loop-piece
invariant-loop-piece l =
    l.ids.items ++ ids_by datagram_names l.pieces (drop l.piece-index l.pieces)
    ≡ ids_by datagram_names l.pieces l.pieces
