use Rattle.std.proofs.Common.{refl, ◌∙◌, ap, arith}
use Rattle.vesgrauf_streams.proofs.IndexLemmas.{same_index, same_entries, index_same, index_with, inserted, longer_by_one}
use Rattle.vesgrauf_streams.proofs.map.StreamMap.insert.Goals as goal

pub returns-in-Some-clause-updates : goal.returns-in-Some-clause-updates
returns-in-Some-clause-updates g c = rw c.replace.ensures.after
    ((c.get_mut.follows.holds c.args.value).2 (rw (← c.in-Some.ensures.value) refl))

pub returns-in-Some-clause-len : goal.returns-in-Some-clause-len
returns-in-Some-clause-len g c = omega (arith, (c.get_mut.follows.holds c.replace.new.dest).1)

pub invariant_of-self : goal.invariant_of-self
invariant_of-self g c = same_index c.self.inside.slots.items c.free_slot.new.slots.items c.self.inside.index
    c.free_slot.ensures.same c.self.invariant

pub returns-in_default-free_slot-clause-err : goal.returns-in_default-free_slot-clause-err
returns-in_default-free_slot-clause-err g c =
    ap (λ es. record { entries = es })
    (same_entries c.self.inside.slots.items c.free_slot.new.slots.items c.free_slot.ensures.same)
    ∙ c.self.view_is ∙ c.get_mut.follows.holds-at-none

pub invariant_of-self-in-Err : goal.invariant_of-self-in-Err
invariant_of-self-in-Err g c = index_same c.free_slot.new.slots.items c.self.inside.index c.insert.new.self
    c.in-Err.ensures.err
    (same_index c.self.inside.slots.items c.free_slot.new.slots.items c.self.inside.index c.free_slot.ensures.same
    c.self.invariant)

pub returns-in-Err-clause-err : goal.returns-in-Err-clause-err
returns-in-Err-clause-err g c =
    ap (λ es. record { entries = es })
    (same_entries c.self.inside.slots.items c.free_slot.new.slots.items c.free_slot.ensures.same)
    ∙ c.self.view_is ∙ c.get_mut.follows.holds-at-none

pub invariant_of-self-2 : goal.invariant_of-self-2
invariant_of-self-2 g c = rw c.fill-self-inside.ensures
    (index_with c.self.inside.slots.items c.free_slot.new.slots.items c.self.inside.index c.insert.new.self
    c.free_slot.ensures.same c.self.invariant
    c.in-Ok.slot c.args.id c.args.value c.in-Ok.ensures.free
    (rw (← (c.self.view_is ∙ c.get_mut.follows.holds-at-none)) at c.in_default.ensures.value)
    c.in-Ok-insert.ensures.updates
    c.in-Ok-insert.field-0 c.in-Ok-insert.ensures.old c.in-Ok-insert.ensures.len)

pub returns-clause-updates : goal.returns-clause-updates
returns-clause-updates g c = rw (← (c.self.view_is ∙ c.get_mut.follows.holds-at-none), c.fill-self-inside.ensures)
    (inserted c.self.inside.slots.items c.free_slot.new.slots.items c.self.inside.index c.insert.new.self
    c.free_slot.ensures.same c.self.invariant
    c.in-Ok.slot c.args.id c.args.value c.in-Ok.ensures.free
    (rw (← (c.self.view_is ∙ c.get_mut.follows.holds-at-none)) at c.in_default.ensures.value)
    c.in-Ok-insert.ensures.updates
    c.in-Ok-insert.field-0 c.in-Ok-insert.ensures.old c.in-Ok-insert.ensures.len)

pub returns-clause-len : goal.returns-clause-len
returns-clause-len g c = rw (← (c.self.view_is ∙ c.get_mut.follows.holds-at-none), c.fill-self-inside.ensures)
    (longer_by_one c.self.inside.slots.items c.free_slot.new.slots.items c.self.inside.index c.insert.new.self
    c.free_slot.ensures.same c.self.invariant
    c.in-Ok.slot c.args.id c.args.value c.in-Ok.ensures.free
    (rw (← (c.self.view_is ∙ c.get_mut.follows.holds-at-none)) at c.in_default.ensures.value)
    c.in-Ok-insert.ensures.updates
    c.in-Ok-insert.field-0 c.in-Ok-insert.ensures.old c.in-Ok-insert.ensures.len)
