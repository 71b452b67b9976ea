use Rattle.wtp_wire.proofs.CloseLemmas.{close_in-is, is-close_in}
use Rattle.wtp_wire.proofs.laws.capsule.close_is_computed.Goals as goal

pub returns : goal.returns
returns c = record { computed = close_in-is; defined = is-close_in }
