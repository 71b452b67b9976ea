use Rattle.std.proofs.Common.{◌≡◌, length}
use Rattle.wtp_messages.specs.Length.{lengths_in, before, all_agree, first_length}
use Rattle.wtp_messages.proofs.length.length_in.Given as goal

abbrev pub invariant-parts : goal.invariant-parts
invariant-parts l = record {
  agree : all_agree (before l.found (lengths_in l.rest)) ≡ all_agree (before l.fn.found (lengths_in l.value));
  first : first_length (before l.found (lengths_in l.rest)) ≡ first_length (before l.fn.found (lengths_in l.value));
}

abbrev pub decreases-parts : goal.decreases-parts
decreases-parts l = length l.rest
