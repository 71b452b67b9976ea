use Rattle.wt_inspection_views.specs.Objects.{HasLines}
use Rattle.wt_inspect.proofs.connection.session_lines.json_of.Given as goal

abbrev pub invariant-loop-summary : goal.invariant-loop-summary
invariant-loop-summary l = HasLines l.summary-index l.lines
