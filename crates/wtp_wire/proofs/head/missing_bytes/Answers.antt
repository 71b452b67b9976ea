use Rattle.std.proofs.Common.{arith}
use Rattle.wtp_wire.proofs.HeadPairLemmas.{complete_pair}
use Rattle.wtp_wire.proofs.head.missing_bytes.Goals as goal

pub returns-clause-complete : goal.returns-clause-complete
returns-clause-complete c = complete_pair c.args.bytes.now _ (omega arith)
