use Rattle.std.proofs.Common.{◌≡◌}
use Rattle.wtp_qpack.specs.Field.{field_map, fields_of_texts}
use Rattle.wtp_fields.proofs.headers.Headers.from_iter.Given as goal

abbrev pub invariant-loop-name : goal.invariant-loop-name
invariant-loop-name g l = l.headers ≡ field_map (fields_of_texts l.yielded)
