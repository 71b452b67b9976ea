use Rattle.std.proofs.Common.{refl, rules}
use Rattle.wtp_qpack.specs.Field.{field_map}
use Rattle.wtp_fields.proofs.fields.FieldList.to_headers.Goals as goal

pub loop-field-init : goal.loop-field-init
unfolding field_map
loop-field-init c = record {
  texts = rw c.iter-fields.ensures (c.if-not-is_utf8.ensures.0 (search rules));
  map = rw (c.new-headers.ensures, c.iter-fields.ensures) refl;
}
