use Rattle.std.proofs.Common.{◌≡◌, ◌≤◌, take}
use Rattle.wt_inspect.specs.SessionsShown.{count_of}
use Rattle.wt_inspect.proofs.connection.summary.count_of.Given as goal

-- how often the ID is there so far
abbrev pub invariant-loop-other : goal.invariant-loop-other
invariant-loop-other l = record {
  within : l.count ≤ l.other-index;
  so_far : l.count ≡ count_of l.id (take l.other-index l.ids);
}
