use Rattle.std.proofs.Common.{refl}
use Rattle.vesgrauf_registry.specs.Settings.{setting_of, settings}
use Rattle.vesgrauf_registry_agreement.proofs.ConnectionLemmas.{same_supported, same_flag}
use Rattle.vesgrauf_registry_agreement.proofs.connections.peer_settings_agree.Goals as goal

pub returns-clause-supported : goal.returns-clause-supported
returns-clause-supported c = same_supported

pub returns-clause-flag : goal.returns-clause-flag
returns-clause-flag c = same_flag

pub returns-clause-capacity : goal.returns-clause-capacity
unfolding setting_of settings
returns-clause-capacity c = refl

pub returns-clause-blocked : goal.returns-clause-blocked
unfolding setting_of settings
returns-clause-blocked c = refl

pub returns-clause-sessions : goal.returns-clause-sessions
unfolding setting_of settings
returns-clause-sessions c = refl

pub returns-clause-later_sessions : goal.returns-clause-later_sessions
unfolding setting_of settings
returns-clause-later_sessions c = refl

pub returns-clause-section : goal.returns-clause-section
unfolding setting_of settings
returns-clause-section c = refl

pub returns-clause-connect : goal.returns-clause-connect
unfolding setting_of settings
returns-clause-connect c = (refl, refl)

pub returns-clause-datagram : goal.returns-clause-datagram
unfolding setting_of settings
returns-clause-datagram c = (refl, refl)

pub returns-clause-webtransport : goal.returns-clause-webtransport
unfolding setting_of settings
returns-clause-webtransport c = (refl, refl)
