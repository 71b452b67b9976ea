use Rattle.std.proofs.Common.{length}
use Rattle.wt_c.proofs.BesideLemmas.{IsSized}
use Rattle.wt_c.proofs.connections.beside.texts_len.Given as goal

abbrev pub invariant-fields : goal.invariant-fields
invariant-fields l = IsSized l.list l.left l.size

abbrev pub decreases-fields : goal.decreases-fields
decreases-fields l = length l.left
