use Rattle.wtp_wire.proofs.CapsuleStreamLemmas.{led-between, led-within, led-too_long}
use Rattle.wtp_wire.proofs.laws.capsule.pieces_make_no_difference.Goals as goal

pub returns-clause-between : goal.returns-clause-between
returns-clause-between c = λ steps held l is. led-between steps held l is

pub returns-clause-within : goal.returns-clause-within
returns-clause-within c = λ steps held l is. led-within steps held l is

pub returns-clause-too_long : goal.returns-clause-too_long
returns-clause-too_long c = λ steps held new left b more l given. led-too_long steps held new left b more l given
