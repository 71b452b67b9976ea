use Rattle.std.proofs.Common.{arith}
use Rattle.wtp_dynamic.proofs.Storing.{word_read}
use Rattle.wtp_dynamic.proofs.stored.take_word.Goals as goal

pub returns : goal.returns
returns c = (word_read c.args.bytes.now c.in_ok-front.front.now c.in_ok-front.rest.now c.number_in.result c.in_ok-front.ensures.cases.0 c.in_ok-front.ensures.cases.1 c.number_in.ensures, omega (arith, c.in_ok-front.ensures.cases.2), c.number_in.type_inv)
