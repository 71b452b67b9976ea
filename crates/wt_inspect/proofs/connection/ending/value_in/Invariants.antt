use Rattle.std.proofs.Common.{◌≡◌, drop}
use Rattle.wt_inspect.specs.SessionsShown.{value_in}
use Rattle.wt_inspect.proofs.connection.ending.value_in.Given as goal

abbrev pub invariant-loop-line : goal.invariant-loop-line
invariant-loop-line l = value_in l.name (drop l.line-index l.lines) ≡ value_in l.name l.lines
