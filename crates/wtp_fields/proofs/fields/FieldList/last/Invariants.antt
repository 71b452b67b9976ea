use Rattle.std.proofs.Common.{◌≡◌}
use Rattle.std.specs.Option.{option_copied}
use Rattle.wtp_qpack.specs.Field.{last_value, or_else}
use Rattle.wtp_fields.proofs.fields.FieldList.last.Given as goal

abbrev pub invariant-loop-field : goal.invariant-loop-field
invariant-loop-field l = or_else (last_value l.name l.fields) (option_copied l.found) ≡ last_value l.name l.fn.self
