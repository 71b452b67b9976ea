use Rattle.std.proofs.Common.{◌≡◌, ◌+◌}
use Rattle.wt_inspection_views.specs.Escaped.{line_count}
use Rattle.wt_inspect.proofs.connection.verdicts.add_text.Given as goal

abbrev pub invariant-loop-verdict : goal.invariant-loop-verdict
invariant-loop-verdict l = line_count l.text ≡ line_count l.fn.text + l.verdict-index
