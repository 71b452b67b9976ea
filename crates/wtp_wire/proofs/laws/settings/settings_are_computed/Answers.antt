use Rattle.wtp_wire.proofs.PayloadLemmas.{settings_in-payload, settings_in-fault}
use Rattle.wtp_wire.proofs.laws.settings.settings_are_computed.Goals as goal

pub returns : goal.returns
returns c = record { settings = settings_in-payload; fault = settings_in-fault }
