use Rattle.std.proofs.Common.{◌≡◌}
use Rattle.std.specs.List.{fold}
use Rattle.wtp_qpack.specs.Field.{field_map, put}
use Rattle.wtp_qpack.specs.FieldLines.{AreUtf8Fields}
use Rattle.wtp_fields.proofs.fields.FieldList.to_headers.Given as goal

abbrev pub invariant-loop-field : goal.invariant-loop-field
invariant-loop-field l = record {
  texts : AreUtf8Fields l.fields;
  map : fold put l.headers l.fields ≡ field_map l.fn.self;
}
