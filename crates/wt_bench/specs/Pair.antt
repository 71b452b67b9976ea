-- Name and value pairs in the form that C passes.
use Rattle.std.specs.Prelude.{List, map}
use Rattle.wtp_fields.specs.Field.{Field}
use Rattle.wt_bench.specs.declared.pair.Pair.{Pair}

-- the field of this pair
abbrev pub pair_field : Pair → Field
pair_field p = (p.name.now, p.value.now)

-- the fields of these pairs
abbrev pub pair_fields : List Pair → List Field
pair_fields = map pair_field
