use Rattle.std.proofs.Common.{rules}
use Rattle.wtp_fields.proofs.PlaceLemmas.{within_at}
use Rattle.wtp_fields.proofs.fields.FieldList.get.Goals as goal

pub line_at-requires : goal.line_at-requires
line_at-requires c =
    rw c.as_slice.ensures.value (within_at _ c.args.index c.in-Some.place.now c.in-Some.place.now c.self.inside.places.items c.self.invariant (search rules) (search rules))
