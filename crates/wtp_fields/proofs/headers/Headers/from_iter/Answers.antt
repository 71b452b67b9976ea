use Rattle.std.proofs.Common.{◌∙◌, ap, sym}
use Rattle.wtp_qpack.specs.Field.{field_map, put}
use Rattle.wtp_fields.proofs.HeaderLemmas.{lent_push}
use Rattle.wtp_fields.proofs.headers.Headers.from_iter.Goals as goal

pub loop-name-init : goal.loop-name-init
unfolding field_map
loop-name-init g c = c.new-headers.ensures

pub loop-name-preserved : goal.loop-name-preserved
loop-name-preserved g c =
    c.in_ok-insert.ensures.ok ∙ ap (λ m. put m (c.in-Some.name.now, c.in-Some.value.now)) c.loop-name.invariant
    ∙ sym (lent_push c.loop-name.yielded (c.in-Some.name, c.in-Some.value))

pub returns-clause-map : goal.returns-clause-map
returns-clause-map g c = rw (← c.into_iter-name-iterator.ensures.into_iter_gives) (c.loop-name.yielded, (c.next.new.self, (c.loop-name.name-iterator, c.loop-name.yielded_by, c.in-None.ensures.steps)), c.loop-name.invariant)
