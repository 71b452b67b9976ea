use Rattle.std.proofs.Common.{◌≡◌}
use Rattle.wtp_qpack.specs.Field.{field_value}
use Rattle.wtp_fields.proofs.fields.FieldList.first.Given as goal

abbrev pub invariant-loop-field : goal.invariant-loop-field
invariant-loop-field l = field_value l.name l.fields ≡ field_value l.name l.fn.self
