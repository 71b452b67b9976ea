use Rattle.wtp_sending.proofs.SessionLemmas.{uni_read, bi_read, datagram_read}
use Rattle.wtp_sending.proofs.laws.sent_sessions_are_named.Goals as goal

pub returns-clause-unidirectional : goal.returns-clause-unidirectional
returns-clause-unidirectional c = uni_read

pub returns-clause-bidirectional : goal.returns-clause-bidirectional
returns-clause-bidirectional c = bi_read

pub returns-clause-datagram : goal.returns-clause-datagram
returns-clause-datagram c = datagram_read
