use Rattle.std.proofs.Common.{◌≡◌, ◌⊎◌, ℕ, List, ◌++◌, None, drop}
use Rattle.wt_inspect.specs.ConnectionShown.{ShowsParts}
use Rattle.wt_inspect.specs.Connections.{worse}
use Rattle.wt_inspect.specs.Drawing.{Draws, has_colors}
use Rattle.wt_inspect.proofs.connection.Connection.show_parts.Given as goal

-- what was shown so far, after which the rest is shown
abbrev pub invariant-loop-part : goal.invariant-loop-part
invariant-loop-part g l = record {
  status : (l.status ≡ 0) ⊎ (l.status ≡ 2);
  shows : (text : List ℕ)
      × Draws (has_colors l.self.arguments.now) (g.W.Write.contents l.fn.output) (g.W.Write.contents l.output) text
      × ((more : List ℕ) (s : ℕ) → ShowsParts l.self l.before (drop l.part-index l.parts) more s
      → ShowsParts l.self None l.parts (text ++ more) (worse l.status s));
}
