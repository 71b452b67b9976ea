use Rattle.std.proofs.Common.{◌≤◌, ◌-◌, length}
use Rattle.std.specs.Io.KnownBytes.{Consumes}
use Rattle.wt_inspect.proofs.input.read_all.Given as goal

abbrev pub invariant-turns : goal.invariant-turns
invariant-turns g l = Consumes (g.R.Read.remaining l.fn.input) (g.R.Read.remaining l.input) l.bytes.items × (length l.bytes.items ≤ 67108864)

-- the number of bytes that may still be read before the input is too long
abbrev pub decreases-turns : goal.decreases-turns
decreases-turns g l = 67108865 - length l.bytes.items
