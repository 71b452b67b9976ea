use Rattle.std.proofs.Common.{◌≡◌, ◌++◌, map}
use Rattle.std.specs.List.{flat_map}
use Rattle.wtransport_proto.specs.Field.{fields_of, field_of}
use Rattle.wt_listings.specs.Request.{field_line}
use Rattle.wt_listings.proofs.listing.request.list_fields.Given as goal

abbrev pub invariant-loop-name : goal.invariant-loop-name
invariant-loop-name l = l.lines ++ flat_map field_line (map field_of l.name-iterator) ≡ flat_map field_line (fields_of l.fields)
