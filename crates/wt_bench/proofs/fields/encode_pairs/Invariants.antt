use Rattle.std.proofs.Common.{◌≡◌, ◌++◌, drop}
use Rattle.std.specs.List.{flat_map}
use Rattle.wtp_qpack.specs.FieldLine.{shortest_line}
use Rattle.wtp_qpack.specs.FieldSection.{shortest_section}
use Rattle.wt_bench.specs.Pair.{pair_fields}
use Rattle.wt_bench.proofs.fields.encode_pairs.Given as goal

abbrev pub invariant-loop-pair : goal.invariant-loop-pair
invariant-loop-pair l =
    l.section.items ++ flat_map shortest_line (pair_fields (drop l.pair-index l.pairs)) ≡ shortest_section (pair_fields l.pairs)
