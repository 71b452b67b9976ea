use Rattle.std.proofs.Common.{inl, inr, refl}
use Rattle.wt_inspect.proofs.connection.tables.capacity_after.Goals as goal

pub returns-in-Some : goal.returns-in-Some
returns-in-Some c = λ given has.
    let gives = rw c.in-Some.is at c.in_ok-next.ensures.gives in
    inl (c.in-Some.item, (c.next.new.self, c.in_ok-next.ensures.input, gives.1 given has), c.capacity_of_item.ensures)

pub returns-in-None : goal.returns-in-None
returns-in-None c = λ given has.
    let gives = rw c.in-None.is at c.in_ok-next.ensures.gives in
    inr ((c.next.new.self, c.in_ok-next.ensures.input, gives.1 given has, gives.0), refl)
