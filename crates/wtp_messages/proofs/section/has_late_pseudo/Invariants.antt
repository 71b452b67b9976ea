use Rattle.std.proofs.Common.{◌≡◌, not, if◌then◌else◌}
use Rattle.std.specs.List.{list_all}
use Rattle.wtp_qpack.specs.Field.{Field}
use Rattle.wtp_messages.specs.Names.{is_pseudo}
use Rattle.wtp_messages.specs.Section.{are_pseudo_first}
use Rattle.wtp_messages.proofs.section.has_late_pseudo.Given as goal

abbrev pub invariant-loop-line : goal.invariant-loop-line
invariant-loop-line l = (if l.regular then list_all (λ (other : Field). not (is_pseudo other)) l.lines else are_pseudo_first l.lines) ≡ are_pseudo_first l.list
