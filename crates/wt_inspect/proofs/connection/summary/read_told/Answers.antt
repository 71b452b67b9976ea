use Rattle.std.proofs.Common.{[], ◌∷◌, ◌++◌, ◌∙◌, subst}
use Rattle.wt_inspection.specs.Items.{Input}
use Rattle.wt_inspect.specs.SessionsShown.{Tells}
use Rattle.wt_inspect.proofs.SheetLemmas.{ok_map}
use Rattle.wt_inspect.proofs.SummaryLemmas.{says_more}
use Rattle.wt_inspect.proofs.connection.summary.read_told.Goals as goal

pub items-preserved : goal.items-preserved
items-preserved c =
    let inv = c.items.invariant in
    let gives = rw c.in-Some.is at c.in_ok-next.ensures.gives in
    let keeps = c.take_warnings.ensures in
    (keeps.input ∙ (c.in_ok-next.ensures.input ∙ inv.0), inv.1 ++ c.in-Some.item ∷ [], keeps.items (inv.1 ++ c.in-Some.item ∷ []) (gives.1 inv.1 inv.2), says_more inv.1 c.in-Some.item c.items.said c.take.new.self inv.3 c.take.ensures.head c.take.ensures.close)

pub items-smaller : goal.items-smaller
items-smaller c =
    let gives = rw c.in-Some.is at c.in_ok-next.ensures.gives in
    rw c.take_warnings.ensures.left gives.0

pub returns-in-None : goal.returns-in-None
returns-in-None c =
    let inv = c.items.invariant in
    let gives = rw c.in-None.is at c.in_ok-next.ensures.gives in
    ok_map _ _ c.told_at_end.result
    (λ told tells. subst (λ (i : Input). Tells i told) (c.in_ok-next.ensures.input ∙ inv.0) (tells inv.1 (gives.1 inv.1 inv.2) inv.3))
    c.told_at_end.ensures
