use Rattle.std.proofs.Common.{◌≡◌}
use Rattle.std.specs.List.{flat_map}
use Rattle.wtp_messages.specs.Length.{lengths_in, lengths_of, before, all_agree, first_length}
use Rattle.wtp_messages.proofs.length.read_length.Given as goal

abbrev pub invariant-loop-value : goal.invariant-loop-value
invariant-loop-value l = record {
  agree : all_agree (before l.found (flat_map lengths_in l.values)) ≡ all_agree (lengths_of l.list);
  first : first_length (before l.found (flat_map lengths_in l.values)) ≡ first_length (lengths_of l.list);
}
