use Rattle.std.proofs.Common.{◌+◌, ◌-◌, subst, ap, arith}
use Rattle.wtp_dynamic_encoder.specs.Choosing.{has_name}
use Rattle.wtp_dynamic_encoder.specs.Indexed.{Tells}
use Rattle.wtp_dynamic_encoder.specs.Hashing.{name_hash}
use Rattle.wtp_dynamic_encoder.proofs.Walks.{walk_first, walk_within, walk_same, walk_on, walk_less, name_implies}
use Rattle.wtp_dynamic_encoder.proofs.indexed.find_name.Goals as goal

pub loop-place-init : goal.loop-place-init
loop-place-init c = walk_first name_hash (has_name c.args.name.now) c.args.table.now c.args.names.now c.args.hash c.latest-place.result c.args.below (name_implies c.args.name.now c.args.hash c.requires.hash) c.requires.index c.latest-place.ensures

pub earlier-place-requires-clause-within : goal.earlier-place-requires-clause-within
earlier-place-requires-clause-within c = walk_within name_hash (has_name c.args.name.now) c.args.table.now c.args.names.now c.args.hash c.loop-place.place c.args.below c.requires.index c.loop-place.invariant c.loop-place-test.true

pub earlier-place-requires-clause-same : goal.earlier-place-requires-clause-same
earlier-place-requires-clause-same c = walk_same name_hash (has_name c.args.name.now) c.args.table.now c.args.names.now c.args.hash c.loop-place.place c.args.below c.requires.index c.loop-place.invariant c.loop-place-test.true

pub loop-place-smaller : goal.loop-place-smaller
loop-place-smaller c = walk_less name_hash c.args.table.now c.args.names.now c.args.hash c.loop-place.place c.earlier-place.result c.loop-place-test.true c.earlier-place.ensures

pub overflow_add-index : goal.overflow_add-index
overflow_add-index c = omega (arith, c.loop-place.invariant.within, c.dropped.ensures.few)

pub loop-place-preserved : goal.loop-place-preserved
loop-place-preserved c =
    walk_on name_hash (has_name c.args.name.now) c.args.table.now c.args.names.now c.args.hash c.loop-place.place c.earlier-place.result (c.dropped.result + (c.loop-place.place - 1)) c.args.below (name_implies c.args.name.now c.args.hash c.requires.hash) c.requires.index c.loop-place.invariant c.loop-place-test.true
    (ap (λ n. n + (c.loop-place.place - 1)) c.dropped.ensures.value) (subst (λ b. Tells b (has_name c.args.name.now) c.args.table.now c.args.below (c.dropped.result + (c.loop-place.place - 1))) c.if-has_name.false c.has_name.ensures) c.earlier-place.ensures
