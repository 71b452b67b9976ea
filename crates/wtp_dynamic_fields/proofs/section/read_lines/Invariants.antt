use Rattle.std.proofs.Common.{◌≡◌, length}
use Rattle.wtp_dynamic_fields.proofs.LineLemmas.{IsRead}
use Rattle.wtp_dynamic_fields.proofs.section.read_lines.Given as goal

abbrev pub invariant-lines : goal.invariant-lines
invariant-lines l = record { same : l.lines.0 ≡ l.fn.opened.0; read : IsRead l.fn.limit l.table l.lines.0 l.list l.lines.1 l.left }

abbrev pub decreases-lines : goal.decreases-lines
decreases-lines l = length l.lines.1
