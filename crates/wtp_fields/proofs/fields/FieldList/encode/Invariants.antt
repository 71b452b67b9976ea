use Rattle.std.proofs.Common.{◌≡◌, ◌++◌}
use Rattle.std.specs.List.{flat_map}
use Rattle.wtp_qpack.specs.Field.{AreOctets}
use Rattle.wtp_qpack.specs.FieldLine.{shortest_line}
use Rattle.wtp_qpack.specs.FieldSection.{shortest_section}
use Rattle.wtp_fields.proofs.fields.FieldList.encode.Given as goal

abbrev pub invariant-loop-field : goal.invariant-loop-field
invariant-loop-field l = record {
  so_far : l.out.items ++ flat_map shortest_line l.fields ≡ shortest_section l.fn.self;
  octets : AreOctets l.fields → AreOctets l.fn.self;
}
