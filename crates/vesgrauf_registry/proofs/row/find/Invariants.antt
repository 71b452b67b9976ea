use Rattle.std.proofs.Common.{◌≡◌, drop}
use Rattle.vesgrauf_registry.specs.Table.{row_among}
use Rattle.vesgrauf_registry.proofs.row.find.Given as goal

abbrev pub invariant-loop-row : goal.invariant-loop-row
invariant-loop-row g l = row_among l.number l.rows ≡ row_among l.number (drop l.row-index l.rows)
