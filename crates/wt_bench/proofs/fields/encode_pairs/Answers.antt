use Rattle.std.proofs.Common.{refl}
use Rattle.wtp_qpack.specs.FieldSection.{shortest_section}
use Rattle.wt_bench.proofs.fields.encode_pairs.Goals as goal

pub loop-pair-init : goal.loop-pair-init
unfolding shortest_section
loop-pair-init c = rw (c.in_ok-section.ensures) refl
