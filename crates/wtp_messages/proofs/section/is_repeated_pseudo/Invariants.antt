use Rattle.std.proofs.Common.{◌≡◌, true}
use Rattle.wtp_messages.specs.Section.{are_pseudo_first, is_repeated}
use Rattle.wtp_messages.proofs.PseudoLemmas.{is_repeated_after}
use Rattle.wtp_messages.proofs.section.is_repeated_pseudo.Given as goal

abbrev pub invariant-loop-line : goal.invariant-loop-line
invariant-loop-line l = record {
  first : are_pseudo_first l.lines ≡ true;
  so_far : is_repeated_after l.found l.name l.lines ≡ is_repeated l.list l.name;
}
