use Rattle.std.proofs.Common.{◌≡◌}
use Rattle.std.specs.List.{list_any}
use Rattle.wtp_messages.specs.declared.malformed.Malformed.{Malformed}
use Rattle.wtp_messages.specs.Section.{line_breaks}
use Rattle.wtp_messages.proofs.section.check_lines.Given as goal

abbrev pub invariant-loop-line : goal.invariant-loop-line
invariant-loop-line l = (rule : Malformed) → list_any (line_breaks l.kind rule) l.lines ≡ list_any (line_breaks l.kind rule) l.list
