use Rattle.std.specs.Io.KnownBytes.{Keeps}
use Rattle.wt_listings.proofs.program.write_some.Given as goal

-- the writes that were interrupted took nothing
abbrev pub invariant-tries : goal.invariant-tries
invariant-tries g l = Keeps (g.W.Write.contents l.fn.writer) (g.W.Write.contents l.writer)
