use Rattle.std.proofs.Common.{◌≡◌, map}
use Rattle.std.specs.Prelude.{take}
use Rattle.wtp_fields.proofs.fields.FieldList.from_fields.Given as goal

abbrev pub invariant-loop-name : goal.invariant-loop-name
invariant-loop-name l =
    l.list ≡ map (λ field. (field.0.now, field.1.now)) (take l.name-index l.fields)
