use Rattle.std.proofs.Common.{length}
use Rattle.wt_c.proofs.BesideLemmas.{IsStoring}
use Rattle.wt_c.proofs.connections.beside.put_fields.Given as goal

abbrev pub invariant-fields : goal.invariant-fields
invariant-fields l = IsStoring l.list l.left l.fn.fields l.fn.texts l.fields l.texts l.count l.used

abbrev pub decreases-fields : goal.decreases-fields
decreases-fields l = length l.left
