use Rattle.wtp_pairs.proofs.SessionLemmas.{datagram_taken, datagram_kept}
use Rattle.wtp_pairs.proofs.laws.datagrams_are_received.Goals as goal

pub returns-clause-taken : goal.returns-clause-taken
returns-clause-taken c = datagram_taken

pub returns-clause-kept : goal.returns-clause-kept
returns-clause-kept c = datagram_kept
