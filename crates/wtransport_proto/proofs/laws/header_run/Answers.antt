use Rattle.wtp_fields.proofs.Payloads.{payload_again}
use Rattle.wtransport_proto.proofs.ExchangeLemmas.{headers-run}
use Rattle.wtransport_proto.proofs.laws.header_run.Goals as goal

pub returns : goal.returns
returns c = record { sent = λ role first m rest tail h small. headers-run role first _ rest tail h small; again = payload_again }
