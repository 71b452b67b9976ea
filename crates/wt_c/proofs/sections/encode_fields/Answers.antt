use Rattle.std.proofs.Common.{refl}
use Rattle.wtp_qpack.specs.FieldSection.{shortest_section}
use Rattle.wt_c.proofs.sections.encode_fields.Goals as goal

pub loop-field-init : goal.loop-field-init
unfolding shortest_section
loop-field-init c = record { so_far = rw (c.in_ok-out.ensures) refl; within = c.requires; octets = λ are. are }
