use Rattle.std.proofs.Common.{◌≡◌, drop}
use Rattle.wt_inspect_connection.specs.Lists.{line_of_same}
use Rattle.wt_inspect_connection.proofs.list.line_of_same.Given as goal

abbrev pub invariant-loop-other : goal.invariant-loop-other
invariant-loop-other l =
    line_of_same l.entry (drop l.other-index l.entries) ≡ line_of_same l.entry l.entries
