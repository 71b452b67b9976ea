use Rattle.std.proofs.Common.{sym, subst}
use Rattle.wt_inspection_views.specs.JsonLines.{IsJsonLine}
use Rattle.wt_inspection_views.proofs.JsonLemmas.{HasLines-added}
use Rattle.wt_inspection_views.proofs.json_lines.object.Lines.try_add.Goals as goal

pub returns-clause-added : goal.returns-clause-added
returns-clause-added c k has =
    HasLines-added k c.args.self.now _ c.as_slice.result.now has (subst IsJsonLine (sym c.as_slice.ensures.value) c.in_ok-line.ensures) (λ whole. whole) c.in_ok-extend_from_slice.ensures.items
