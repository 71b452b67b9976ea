use Rattle.std.proofs.Common.{None, ap, sym, refl, ◌∙◌, length, arith}
use Rattle.vesgrauf_streams.specs.Slots.{id_at}
use Rattle.vesgrauf_streams.proofs.PlaceLemmas.{within_id}
use Rattle.vesgrauf_streams.proofs.IndexLemmas.{looks, index_lent, lent_value, lent_id}
use Rattle.vesgrauf_streams.proofs.LendLemmas.{lent_through}
use Rattle.vesgrauf_streams.proofs.CallerLemmas.{through_none}
use Rattle.vesgrauf_streams.proofs.map.StreamMap.get_mut.Goals as goal

pub index_mut-requires-in-Some-noted : goal.index_mut-requires-in-Some-noted
index_mut-requires-in-Some-noted g c =
    omega (
      arith,
      c.deref.ensures.len,
      ap length c.deref.ensures.value,
      within_id c.self.inside.slots.items c.in-Some-noted.slot c.args.id.now
          (c.self.invariant.back c.args.id.now c.in-Some-noted.slot (sym c.in-Some-noted.ensures)),
    )

pub value_mut-requires-in-Some-noted : goal.value_mut-requires-in-Some-noted
value_mut-requires-in-Some-noted g c =
    lent_id c.self.inside.slots.items c.self.inside.index c.in-Some-noted.slot c.args.id.now
    c.index_mut-in-Some-noted.result.now c.self.invariant (sym c.in-Some-noted.ensures)
    c.index_mut-in-Some-noted.ensures.value

pub invariant_of-self-lent : goal.invariant_of-self-lent
invariant_of-self-lent g c w =
    index_lent c.self.inside.slots.items c.self.inside.index c.in-Some.slot c.args.id.now
    c.index_mut.result.now c.self.invariant (c.self.invariant.there c.in-Some.slot c.args.id.now
    (ap (λ l. id_at l c.in-Some.slot) (sym c.deref.ensures.value) ∙ c.in-Some.ensures))
    c.index_mut.ensures.value w

pub returns-in-Some : goal.returns-in-Some
returns-in-Some g c = (
  (
    refl,
    rw (← c.self.view_is) (lent_through c.self.inside.slots.items c.self.inside.index c.in-Some.slot c.args.id.now
        c.index_mut.result.now c.value_mut.result.now c.self.invariant
        (c.self.invariant.there c.in-Some.slot c.args.id.now
        (ap (λ l. id_at l c.in-Some.slot) (sym c.deref.ensures.value) ∙ c.in-Some.ensures))
        c.index_mut.ensures.value c.value_mut.ensures.value),
    refl,
  ),
  record {
    writes_back = tt;
    value = rw (← c.self.view_is) (lent_value c.self.inside.slots.items c.self.inside.index c.in-Some.slot c.args.id.now
        c.index_mut.result.now c.value_mut.result.now c.self.invariant
        (c.self.invariant.there c.in-Some.slot c.args.id.now
        (ap (λ l. id_at l c.in-Some.slot) (sym c.deref.ensures.value) ∙ c.in-Some.ensures))
        c.index_mut.ensures.value c.value_mut.ensures.value);
  },
)

pub invariant_of-self-lent-in-Some-noted : goal.invariant_of-self-lent-in-Some-noted
invariant_of-self-lent-in-Some-noted g c w =
    index_lent c.self.inside.slots.items c.self.inside.index c.in-Some-noted.slot c.args.id.now
    c.index_mut-in-Some-noted.result.now c.self.invariant (sym c.in-Some-noted.ensures)
    c.index_mut-in-Some-noted.ensures.value w

pub returns-in-Some-noted : goal.returns-in-Some-noted
returns-in-Some-noted g c = (
  (
    refl,
    rw (← c.self.view_is) (lent_through c.self.inside.slots.items c.self.inside.index c.in-Some-noted.slot c.args.id.now
        c.index_mut-in-Some-noted.result.now c.value_mut-in-Some-noted.result.now c.self.invariant
        (sym c.in-Some-noted.ensures)
        c.index_mut-in-Some-noted.ensures.value c.value_mut-in-Some-noted.ensures.value),
    refl,
  ),
  record {
    writes_back = tt;
    value = rw (← c.self.view_is) (lent_value c.self.inside.slots.items c.self.inside.index c.in-Some-noted.slot c.args.id.now
        c.index_mut-in-Some-noted.result.now c.value_mut-in-Some-noted.result.now c.self.invariant
        (sym c.in-Some-noted.ensures)
        c.index_mut-in-Some-noted.ensures.value c.value_mut-in-Some-noted.ensures.value);
  },
)

pub returns-in-None-noted : goal.returns-in-None-noted
returns-in-None-noted g c = (
  (
    refl,
    rw (← c.self.view_is) (λ w. through_none _ c.args.id.now w (looks c.self.inside.slots.items c.self.inside.index c.self.invariant None c.args.id.now
        c.in-None-noted.ensures)),
    c.self.view_is,
  ),
  record {
    writes_back = tt;
    value = rw (← c.self.view_is) (sym (looks c.self.inside.slots.items c.self.inside.index c.self.invariant None c.args.id.now
        c.in-None-noted.ensures));
  },
)
