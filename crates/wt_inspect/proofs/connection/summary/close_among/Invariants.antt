use Rattle.std.proofs.Common.{◌≡◌, None}
use Rattle.wt_inspect.specs.SessionsShown.{close_among}
use Rattle.wt_inspect.proofs.connection.summary.close_among.Given as goal

-- the capsules so far have no close
abbrev pub invariant-loop-capsule : goal.invariant-loop-capsule
invariant-loop-capsule l = close_among l.yielded ≡ None
