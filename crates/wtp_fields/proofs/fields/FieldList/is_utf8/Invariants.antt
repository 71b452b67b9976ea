use Rattle.std.proofs.Common.{◌↔◌}
use Rattle.wtp_qpack.specs.FieldLines.{AreUtf8Fields}
use Rattle.wtp_fields.proofs.fields.FieldList.is_utf8.Given as goal

abbrev pub invariant-loop-field : goal.invariant-loop-field
invariant-loop-field l = AreUtf8Fields l.fields ↔ AreUtf8Fields l.fn.self
