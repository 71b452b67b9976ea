use Rattle.std.proofs.Common.{length}
use Rattle.wtp_fields.proofs.FieldListLemmas.{IsRead}
use Rattle.wtp_fields.proofs.fields.FieldList.decode.Given as goal

abbrev pub invariant-lines : goal.invariant-lines
invariant-lines l = IsRead l.fn.limit l.fn.section l.list l.lines l.left

abbrev pub decreases-lines : goal.decreases-lines
decreases-lines l = length l.lines
