use Rattle.std.proofs.Common.{Some, None, ap, sym, ◌∙◌}
use Rattle.vesgrauf_streams.specs.Slots.{id_at, value_at}
use Rattle.vesgrauf_streams.proofs.IndexLemmas.{looks}
use Rattle.vesgrauf_streams.proofs.map.StreamMap.get.Goals as goal

pub returns-in-Some : goal.returns-in-Some
returns-in-Some g c = record {
  value = rw (← c.self.view_is)
      (sym c.value_of.ensures ∙ ap (λ l. value_at l c.in-Some.slot) c.deref-in-Some.ensures.value
      ∙ sym (looks c.self.inside.slots.items c.self.inside.index c.self.invariant (Some c.in-Some.slot) c.args.id.now
      (sym (c.self.invariant.there c.in-Some.slot c.args.id.now
      (ap (λ l. id_at l c.in-Some.slot) (sym c.deref.ensures.value) ∙ c.in-Some.ensures)))));
}

pub returns-in-Some-indexed : goal.returns-in-Some-indexed
returns-in-Some-indexed g c = record {
  value = rw (← c.self.view_is)
      (sym c.value_of-in-Some-indexed.ensures
      ∙ ap (λ l. value_at l c.in-Some-indexed.slot) c.deref-in-Some-indexed.ensures.value
      ∙ sym (looks c.self.inside.slots.items c.self.inside.index c.self.invariant (Some c.in-Some-indexed.slot)
      c.args.id.now c.in-Some-indexed.ensures));
}

pub returns-in-None-indexed : goal.returns-in-None-indexed
returns-in-None-indexed g c = record {
  value = rw (← c.self.view_is)
      (sym (looks c.self.inside.slots.items c.self.inside.index c.self.invariant None c.args.id.now
      c.in-None-indexed.ensures));
}
