use Rattle.std.proofs.Common.{◌≡◌, ◌+◌}
use Rattle.wt_inspection_views.specs.Escaped.{line_count}
use Rattle.wt_inspect.proofs.connection.session_lines.add_lines.Given as goal

abbrev pub invariant-loop-summary : goal.invariant-loop-summary
invariant-loop-summary l = line_count l.text ≡ line_count l.fn.text + l.summary-index
