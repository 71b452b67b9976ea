use Rattle.wtp_dynamic_decoder.proofs.Reported.{reported}
use Rattle.wtp_dynamic_decoder.proofs.decoder.faults_are_reported.Goals as goal

pub returns : goal.returns
returns c = reported
