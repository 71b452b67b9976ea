use Rattle.std.proofs.Common.{◌≡◌, drop}
use Rattle.wt_inspect.specs.Connections.{capacity_among}
use Rattle.wt_inspect.proofs.connection.tables.capacity_among.Given as goal

abbrev pub invariant-loop-setting : goal.invariant-loop-setting
invariant-loop-setting l =
    capacity_among (drop l.setting-index l.settings) ≡ capacity_among l.settings
