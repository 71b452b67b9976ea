use Rattle.std.proofs.Common.{◌≡◌, ◌++◌}
use Rattle.wtp_wire.proofs.settings.Settings.clone.Given as goal

abbrev pub invariant-loop-number : goal.invariant-loop-number
invariant-loop-number l = l.settings ++ l.number-iterator ≡ l.self
