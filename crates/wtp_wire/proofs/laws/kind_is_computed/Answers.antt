use Rattle.wtp_wire.proofs.KindLemmas.{kind_of-is, is-kind_of}
use Rattle.wtp_wire.proofs.laws.kind_is_computed.Goals as goal

pub returns : goal.returns
returns c = record { computed = kind_of-is; defined = is-kind_of }
