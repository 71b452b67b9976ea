use Rattle.std.proofs.Common.{refl}
use Rattle.wtp_sending.proofs.ControlLemmas.{settings_sent, goaway_sent}
use Rattle.wtp_sending.proofs.laws.sent_control_frames_are_read.Goals as goal

pub returns-clause-start : goal.returns-clause-start
returns-clause-start c = λ e. (refl, refl)

pub returns-clause-settings : goal.returns-clause-settings
returns-clause-settings c = settings_sent

pub returns-clause-goaway : goal.returns-clause-goaway
returns-clause-goaway c = goaway_sent
