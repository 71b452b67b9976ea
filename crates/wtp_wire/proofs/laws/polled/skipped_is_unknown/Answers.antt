use Rattle.wtp_wire.proofs.FramePrefixLemmas.{skipped_unknown}
use Rattle.wtp_wire.proofs.laws.polled.skipped_is_unknown.Goals as goal

pub returns-clause-begun : goal.returns-clause-begun
returns-clause-begun c = λ old new a b s z e. (skipped_unknown old new a b s z e).0

pub returns-clause-going : goal.returns-clause-going
returns-clause-going c = λ old new a b s z e. (skipped_unknown old new a b s z e).1
