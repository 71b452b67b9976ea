use Rattle.wtp_wire.proofs.CapsuleStreamLemmas.{joined}
use Rattle.wtp_wire.proofs.laws.capsule.cuts_make_no_difference.Goals as goal

pub returns : goal.returns
returns c = λ result old new a b more given. joined result old new a b more given
