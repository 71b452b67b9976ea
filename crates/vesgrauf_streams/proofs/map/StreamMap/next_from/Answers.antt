use Rattle.std.proofs.Common.{ap, sym, ◌∙◌}
use Rattle.vesgrauf_streams.specs.Slots.{value_at}
use Rattle.vesgrauf_streams.proofs.NextLemmas.{none_from, first_from}
use Rattle.vesgrauf_streams.proofs.map.StreamMap.next_from.Goals as goal

pub returns-in-None : goal.returns-in-None
returns-in-None g c = rw (← c.self.view_is)
    (none_from c.self.inside.slots.items c.self.inside.index c.self.invariant c.args.from c.range.result
    (c.range.ensures.in_range tt) c.in-None.ensures.steps.0)

pub returns-in-Some : goal.returns-in-Some
returns-in-Some g c = rw (← c.self.view_is)
    (first_from c.self.inside.slots.items c.self.inside.index c.self.invariant c.args.from c.in-Some.id.now
    c.in-Some.slot.now c.value_of.result.now c.range.result c.next.new.self
    (c.range.ensures.in_range tt) c.in-Some.ensures.steps
    (ap (λ l. value_at l c.in-Some.slot.now) (sym c.deref.ensures.value) ∙ c.value_of.ensures))
