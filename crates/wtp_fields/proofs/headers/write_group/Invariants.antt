use Rattle.std.proofs.Common.{◌≡◌, ◌++◌, map}
use Rattle.wtp_qpack.specs.Field.{fields_of, field_of}
use Rattle.wtp_fields.specs.Headers.{group_lines}
use Rattle.wtp_fields.proofs.headers.write_group.Given as goal

abbrev pub invariant-loop-name : goal.invariant-loop-name
invariant-loop-name l = l.out.items ++ group_lines l.pseudo (map field_of l.name-iterator) ≡ l.fn.out.items ++ group_lines l.pseudo (fields_of l.fields)
