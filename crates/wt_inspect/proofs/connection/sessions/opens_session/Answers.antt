use Rattle.std.proofs.Common.{[], ◌∷◌, ◌++◌, ◌∙◌, inl, inr, refl, sym}
use Rattle.wt_inspect.proofs.ConnectionLemmas.{no_section_more}
use Rattle.wt_inspect.proofs.connection.sessions.opens_session.Goals as goal

pub returns-in-Some-opening_in : goal.returns-in-Some-opening_in
returns-in-Some-opening_in c =
    let gives = rw c.in-Some.is at c.in_ok-next.ensures.gives in
    inl (c.items.invariant.1, c.in-Some.item, c.items.invariant.2, (c.next.new.self, c.in_ok-next.ensures.input ∙ c.items.invariant.0, gives.1 c.items.invariant.1 c.items.invariant.3), sym c.opening_in.ensures ∙ c.in-Some-opening_in.is)

pub items-preserved : goal.items-preserved
items-preserved c =
    let gives = rw c.in-Some.is at c.in_ok-next.ensures.gives in
    (c.in_ok-next.ensures.input ∙ c.items.invariant.0, c.items.invariant.1 ++ c.in-Some.item ∷ [], no_section_more c.items.invariant.1 c.in-Some.item c.items.invariant.2 (sym c.opening_in.ensures ∙ c.in-None-opening_in.is), gives.1 c.items.invariant.1 c.items.invariant.3)

pub returns-in-None : goal.returns-in-None
returns-in-None c =
    let gives = rw c.in-None.is at c.in_ok-next.ensures.gives in
    inr (c.items.invariant.1, c.items.invariant.2, (c.next.new.self, c.in_ok-next.ensures.input ∙ c.items.invariant.0, gives.1 c.items.invariant.1 c.items.invariant.3, gives.0), refl)
