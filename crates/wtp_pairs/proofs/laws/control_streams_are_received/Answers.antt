use Rattle.wtp_pairs.proofs.ControlLemmas.{type_read, control_start, settings_read, goaway_read}
use Rattle.wtp_pairs.proofs.laws.control_streams_are_received.Goals as goal

pub returns-clause-opened : goal.returns-clause-opened
returns-clause-opened c = type_read

pub returns-clause-start : goal.returns-clause-start
returns-clause-start c = control_start

pub returns-clause-settings : goal.returns-clause-settings
returns-clause-settings c = settings_read

pub returns-clause-goaway : goal.returns-clause-goaway
returns-clause-goaway c = goaway_read
