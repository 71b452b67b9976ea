use Rattle.wtp_core.proofs.LeastLemmas.{size-first, size-holds, size-least}
use Rattle.wtp_core.proofs.laws.size_holds_the_number.Goals as goal

pub returns : goal.returns
returns c = record { first = size-first; holds = size-holds; least = size-least }
