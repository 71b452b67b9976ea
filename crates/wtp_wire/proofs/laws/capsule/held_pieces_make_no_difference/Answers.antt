use Rattle.wtp_wire.proofs.CapsuleCursorLemmas.{led_end, led_long}
use Rattle.wtp_wire.proofs.laws.capsule.held_pieces_make_no_difference.Goals as goal

pub returns-clause-end : goal.returns-clause-end
returns-clause-end c = led_end

pub returns-clause-too_long : goal.returns-clause-too_long
returns-clause-too_long c = led_long
