use Rattle.std.proofs.Common.{length}
use Rattle.wt_c.proofs.FieldLemmas.{IsRead}
use Rattle.wt_c.proofs.fields.read_lines.Given as goal

abbrev pub invariant-lines : goal.invariant-lines
invariant-lines l = IsRead l.fn.lines l.lines l.fn.fields l.fn.texts l.fields l.texts l.count l.used

abbrev pub decreases-lines : goal.decreases-lines
decreases-lines l = length l.lines
