use Rattle.wtp_wire.proofs.RuleLemmas.{rule_first}
use Rattle.wtp_wire.proofs.RunLaws.{run-first}
use Rattle.wtransport_proto.proofs.laws.only_remote_bi_counts.Goals as goal

pub returns : goal.returns
returns c = record { rules = rule_first; runs = run-first }
