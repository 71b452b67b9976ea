use Rattle.std.proofs.Common.{◌≡◌, List, length}
use Rattle.wtp_qpack.specs.Field.{Field, fields_of, field_map}
use Rattle.wtp_qpack.specs.FieldSection.{AreLines}
use Rattle.wtp_qpack.proofs.qpack.field_section.read_lines.Given as goal

abbrev pub invariant-loop-rest : goal.invariant-loop-rest
invariant-loop-rest l = (ls : List Field) × AreLines l.lines ls l.rest × (fields_of l.fields ≡ field_map ls)

abbrev pub decreases-loop-rest : goal.decreases-loop-rest
decreases-loop-rest l = length l.rest
