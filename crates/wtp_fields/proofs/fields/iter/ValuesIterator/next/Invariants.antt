use Rattle.std.proofs.Common.{◌≡◌, length}
use Rattle.wtp_fields.specs.FieldList.{values_of}
use Rattle.wtp_fields.proofs.fields.iter.ValuesIterator.next.Given as goal

abbrev pub invariant-loop-field : goal.invariant-loop-field
invariant-loop-field l = values_of l.self-inside.name.now l.self-inside.fields ≡ l.fn.self

abbrev pub decreases-loop-field : goal.decreases-loop-field
decreases-loop-field l = length l.self-inside.fields
