use Rattle.std.proofs.Common.{◌≡◌, ℕ, List, ◌++◌, length}
use Rattle.std.specs.Io.KnownBytes.{Appends}
use Rattle.wt_listings.proofs.program.write_start.Given as goal

-- the bytes written so far, and those that are left
abbrev pub invariant-writes : goal.invariant-writes
invariant-writes g l = (start : List ℕ) × (l.bytes ≡ start ++ l.rest) × Appends (g.W.Write.contents l.fn.writer) (g.W.Write.contents l.writer) start

abbrev pub decreases-writes : goal.decreases-writes
decreases-writes g l = length l.rest
