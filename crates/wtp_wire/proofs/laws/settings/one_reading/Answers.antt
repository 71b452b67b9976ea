use Rattle.wtp_wire.proofs.PayloadLemmas.{payload_judged}
use Rattle.wtp_wire.proofs.laws.settings.one_reading.Goals as goal

pub returns : goal.returns
returns c = payload_judged
