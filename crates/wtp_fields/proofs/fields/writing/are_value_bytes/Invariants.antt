use Rattle.std.proofs.Common.{◌≡◌, length}
use Rattle.std.specs.List.{list_all}
use Rattle.wtp_fields.specs.FieldWriting.{is_value_byte}
use Rattle.wtp_fields.proofs.fields.writing.are_value_bytes.Given as goal

abbrev pub invariant-loop-rest : goal.invariant-loop-rest
invariant-loop-rest l = list_all is_value_byte l.rest ≡ list_all is_value_byte l.value

abbrev pub decreases-loop-rest : goal.decreases-loop-rest
decreases-loop-rest l = length l.rest
