use Rattle.std.proofs.Common.{◌+◌, ◌-◌, subst, ap, arith}
use Rattle.wtp_dynamic_encoder.specs.Choosing.{is_field}
use Rattle.wtp_dynamic_encoder.specs.Indexed.{Tells}
use Rattle.wtp_dynamic_encoder.specs.Hashing.{field_hash}
use Rattle.wtp_dynamic_encoder.proofs.Walks.{walk_first, walk_within, walk_same, walk_on, walk_less, field_implies}
use Rattle.wtp_dynamic_encoder.proofs.indexed.find_field.Goals as goal

pub loop-place-init : goal.loop-place-init
loop-place-init c = walk_first field_hash (is_field (c.args.name.now, c.args.value.now)) c.args.table.now c.args.fields.now c.args.hash c.latest-place.result c.args.below (field_implies c.args.name.now c.args.value.now c.args.hash c.requires.hash) c.requires.index c.latest-place.ensures

pub earlier-place-requires-clause-within : goal.earlier-place-requires-clause-within
earlier-place-requires-clause-within c = walk_within field_hash (is_field (c.args.name.now, c.args.value.now)) c.args.table.now c.args.fields.now c.args.hash c.loop-place.place c.args.below c.requires.index c.loop-place.invariant c.loop-place-test.true

pub earlier-place-requires-clause-same : goal.earlier-place-requires-clause-same
earlier-place-requires-clause-same c = walk_same field_hash (is_field (c.args.name.now, c.args.value.now)) c.args.table.now c.args.fields.now c.args.hash c.loop-place.place c.args.below c.requires.index c.loop-place.invariant c.loop-place-test.true

pub loop-place-smaller : goal.loop-place-smaller
loop-place-smaller c = walk_less field_hash c.args.table.now c.args.fields.now c.args.hash c.loop-place.place c.earlier-place.result c.loop-place-test.true c.earlier-place.ensures

pub overflow_add-index : goal.overflow_add-index
overflow_add-index c = omega (arith, c.loop-place.invariant.within, c.dropped.ensures.few)

pub loop-place-preserved : goal.loop-place-preserved
loop-place-preserved c =
    walk_on field_hash (is_field (c.args.name.now, c.args.value.now)) c.args.table.now c.args.fields.now c.args.hash c.loop-place.place c.earlier-place.result (c.dropped.result + (c.loop-place.place - 1)) c.args.below (field_implies c.args.name.now c.args.value.now c.args.hash c.requires.hash) c.requires.index c.loop-place.invariant c.loop-place-test.true
    (ap (λ n. n + (c.loop-place.place - 1)) c.dropped.ensures.value) (subst (λ b. Tells b (is_field (c.args.name.now, c.args.value.now)) c.args.table.now c.args.below (c.dropped.result + (c.loop-place.place - 1))) c.if-is_field.false c.is_field.ensures) c.earlier-place.ensures
