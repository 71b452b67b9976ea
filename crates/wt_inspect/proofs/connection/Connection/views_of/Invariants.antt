use Rattle.std.proofs.Common.{List, ◌++◌, drop}
use Rattle.wt_inspect.specs.PageShown.{AreViews}
use Rattle.wt_inspect.specs.declared.connection.page.View.{View}
use Rattle.wt_inspect.proofs.connection.Connection.views_of.Given as goal

-- the pieces so far, after which the rest come
abbrev pub invariant-loop-part : goal.invariant-loop-part
invariant-loop-part l =
    (more : List View) → AreViews l.self (drop l.part-index l.parts) more
    → AreViews l.self l.parts (l.views.items ++ more)
