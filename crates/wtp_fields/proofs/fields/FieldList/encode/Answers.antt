use Rattle.std.proofs.Common.{refl}
use Rattle.wtp_qpack.specs.FieldSection.{shortest_section}
use Rattle.wtp_fields.proofs.fields.FieldList.encode.Goals as goal

pub loop-field-init : goal.loop-field-init
unfolding shortest_section
loop-field-init c = record { so_far = rw (c.in_ok-out.ensures, c.iter-fields.ensures) refl; octets = λ are. rw c.iter-fields.ensures at are }
