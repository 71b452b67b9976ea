use Rattle.std.proofs.Common.{arith, length-drop}
use Rattle.wtp_wire.proofs.CapsuleFrontLemmas.{number_shorter}
use Rattle.wtp_wire.proofs.head.first_pair.Goals as goal

pub returns-clause-some : goal.returns-clause-some
returns-clause-some c =
    let one = number_shorter _ _ _ c.in_ok-first.ensures.found in
    omega (arith, one, length-drop c.in_ok-first.first_size c.args.bytes.now)
