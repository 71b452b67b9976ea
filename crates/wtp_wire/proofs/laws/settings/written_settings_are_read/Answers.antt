use Rattle.wtp_wire.proofs.PayloadLemmas.{settings_in-wire}
use Rattle.wtp_wire.proofs.laws.settings.written_settings_are_read.Goals as goal

pub returns : goal.returns
returns c = settings_in-wire
