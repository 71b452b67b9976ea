use Rattle.std.proofs.Common.{◌-◌, ◌/◌, ◌%◌, arith, eq-eqb}
use Rattle.std.proofs.lemmas.Bool.{eqb-true}
use Rattle.wtp_core.proofs.numbers.is_reserved.Goals as goal

pub returns-then-number-ge33-clause-reserved : goal.returns-then-number-ge33-clause-reserved
returns-then-number-ge33-clause-reserved c =
    let value = c.number.inside.value in
    (λ t. ((value - 33) / 31, omega (arith, eqb-true ((value - 33) % 31) 0 t)), λ (n, e). eq-eqb ((value - 33) % 31) 0 (omega arith))
