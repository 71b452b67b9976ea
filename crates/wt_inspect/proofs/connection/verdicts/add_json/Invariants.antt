use Rattle.wt_inspection_views.specs.Objects.{AddsLines}
use Rattle.wt_inspect.proofs.connection.verdicts.add_json.Given as goal

abbrev pub invariant-loop-verdict : goal.invariant-loop-verdict
invariant-loop-verdict l = AddsLines l.verdict-index l.fn.lines l.lines
