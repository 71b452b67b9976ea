use Rattle.wtp_messages.proofs.BrokenLemmas as broken
use Rattle.wtp_messages.proofs.laws.broken_responses_are_refused.Goals as goal

pub returns-clause-no_status : goal.returns-clause-no_status
returns-clause-no_status c = broken.no_status

pub returns-clause-no_digits : goal.returns-clause-no_digits
returns-clause-no_digits c = broken.no_digits

pub returns-clause-low_status : goal.returns-clause-low_status
returns-clause-low_status c = broken.low_status

pub returns-clause-switching : goal.returns-clause-switching
returns-clause-switching c = broken.switching

pub returns-clause-session_204 : goal.returns-clause-session_204
returns-clause-session_204 c = broken.session_204

pub returns-clause-session_205 : goal.returns-clause-session_205
returns-clause-session_205 c = broken.session_205

pub returns-clause-session_206 : goal.returns-clause-session_206
returns-clause-session_206 c = broken.session_206

pub returns-clause-accepted_length : goal.returns-clause-accepted_length
returns-clause-accepted_length c = broken.accepted_length

pub returns-clause-accepted_type : goal.returns-clause-accepted_type
returns-clause-accepted_type c = broken.accepted_type
