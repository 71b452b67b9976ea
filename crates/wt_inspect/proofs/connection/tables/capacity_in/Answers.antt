use Rattle.std.proofs.Common.{[], ◌∷◌, ◌∙◌, inl, inr, refl, subst}
use Rattle.wt_inspection.specs.Items.{Input}
use Rattle.wt_inspect.proofs.SheetLemmas.{ok_map}
use Rattle.wt_inspect.specs.Connections.{AllowsAfter}
use Rattle.wt_inspect.proofs.connection.tables.capacity_in.Goals as goal

pub returns-in-Some : goal.returns-in-Some
returns-in-Some c =
    let gives = rw c.in-Some.is at c.in_ok-head.ensures.gives in
    ok_map _ _ c.capacity_after.result
    (λ allowed after. inl (c.in-Some.head, subst (λ (i : Input). AllowsAfter i (c.in-Some.head ∷ []) allowed) (c.in_ok-head.ensures.input ∙ c.new-items.ensures.input) (after (c.in-Some.head ∷ []) (gives.1 [] c.new-items.ensures.none))))
    c.capacity_after.ensures

pub returns : goal.returns
returns c =
    let gives = rw c.in-None.is at c.in_ok-head.ensures.gives in
    inr ((c.next.new.self, c.in_ok-head.ensures.input ∙ c.new-items.ensures.input, gives.1 [] c.new-items.ensures.none, gives.0), refl)
