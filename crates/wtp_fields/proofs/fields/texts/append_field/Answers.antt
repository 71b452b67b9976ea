use Rattle.wtp_fields.proofs.PlaceLemmas.{appended, within_appended}
use Rattle.wtp_fields.proofs.fields.texts.append_field.Goals as goal

pub returns-clause-ok : goal.returns-clause-ok
returns-clause-ok c =
    rw (c.push_reserved.ensures.items, c.in_ok-reserve.ensures.items, c.in_ok-place.ensures.ok, c.in_ok-place.ensures.place)
    (appended c.args.texts.now.items c.args.name.now c.args.value.now c.args.places.now.items c.requires)

pub returns-clause-within : goal.returns-clause-within
returns-clause-within c =
    rw (c.push_reserved.ensures.items, c.in_ok-reserve.ensures.items, c.in_ok-place.ensures.ok, c.in_ok-place.ensures.place)
    (within_appended c.args.texts.now.items c.args.name.now c.args.value.now c.args.places.now.items c.requires)
