use Rattle.std.proofs.Common.{◌≡◌, drop}
use Rattle.std.specs.List.{list_all}
use Rattle.wtp_fields.specs.FieldWriting.{is_value_byte}
use Rattle.wtp_fields.proofs.fields.writing.is_each_value_byte.Given as goal

abbrev pub invariant-loop-byte : goal.invariant-loop-byte
invariant-loop-byte l = list_all is_value_byte (drop l.byte-index l.value) ≡ list_all is_value_byte l.value
