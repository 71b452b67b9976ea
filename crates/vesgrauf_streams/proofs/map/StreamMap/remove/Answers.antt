use Rattle.std.proofs.Common.{Some, None, sym, ◌∙◌}
use Rattle.vesgrauf_streams.proofs.IndexLemmas.{looks, removes, index_without, entries_without, one_less, none_removed, no_update}
use Rattle.vesgrauf_streams.proofs.map.StreamMap.remove.Goals as goal

pub invariant_of-self : goal.invariant_of-self
invariant_of-self g c = rw c.take-value.ensures.slots
    (index_without c.self.inside.slots.items c.self.inside.index c.remove.new.self c.in-Some.slot c.args.id.now
    c.self.inside.free c.self.invariant
    (sym c.in-Some.ensures.value) c.in-Some.ensures.updates c.in-Some.ensures.len)

pub returns-in-Some-clause-value : goal.returns-in-Some-clause-value
returns-in-Some-clause-value g c = rw (← c.self.view_is)
    (sym c.take-value.ensures.value ∙ sym (looks c.self.inside.slots.items c.self.inside.index c.self.invariant
    (Some c.in-Some.slot) c.args.id.now c.in-Some.ensures.value))

pub returns-in-Some-clause-updates : goal.returns-in-Some-clause-updates
returns-in-Some-clause-updates g c = rw (← c.self.view_is, c.take-value.ensures.slots)
    (removes c.self.inside.slots.items c.self.inside.index c.remove.new.self c.in-Some.slot c.args.id.now
    c.self.inside.free c.self.invariant
    (sym c.in-Some.ensures.value) c.in-Some.ensures.updates c.in-Some.ensures.len)

pub returns-in-Some-clause-entries : goal.returns-in-Some-clause-entries
returns-in-Some-clause-entries g c = rw (← c.self.view_is, c.take-value.ensures.slots)
    (entries_without c.self.inside.slots.items c.self.inside.index c.in-Some.slot c.args.id.now c.self.inside.free
    c.self.invariant (sym c.in-Some.ensures.value))

pub returns-in-Some-clause-len : goal.returns-in-Some-clause-len
returns-in-Some-clause-len g c = rw (← c.self.view_is, c.take-value.ensures.slots)
    (one_less c.self.inside.slots.items c.self.inside.index c.in-Some.slot c.args.id.now c.self.inside.free
    c.self.invariant (sym c.in-Some.ensures.value))

pub returns-in-None-clause-value : goal.returns-in-None-clause-value
returns-in-None-clause-value g c = rw (← c.self.view_is)
    (sym (looks c.self.inside.slots.items c.self.inside.index c.self.invariant None c.args.id.now
    c.in-None.ensures.value))

pub returns-in-None-clause-updates : goal.returns-in-None-clause-updates
returns-in-None-clause-updates g c = rw (← c.self.view_is)
    (no_update _ c.args.id.now (looks c.self.inside.slots.items c.self.inside.index c.self.invariant None
    c.args.id.now c.in-None.ensures.value))

pub returns-in-None-clause-entries : goal.returns-in-None-clause-entries
returns-in-None-clause-entries g c = rw (← c.self.view_is)
    (none_removed c.args.id.now _ (looks c.self.inside.slots.items c.self.inside.index c.self.invariant None
    c.args.id.now c.in-None.ensures.value))
