use Rattle.wtp_pairs.proofs.ConnectLemmas.{session_open, session_end}
use Rattle.wtp_pairs.proofs.CloseLemmas.{close_said, drain_said, still_session}
use Rattle.wtp_pairs.proofs.laws.closes_are_received.Goals as goal

pub returns-clause-close : goal.returns-clause-close
returns-clause-close c = close_said

pub returns-clause-drain : goal.returns-clause-drain
returns-clause-drain c = drain_said

pub returns-clause-open : goal.returns-clause-open
returns-clause-open c = still_session

pub returns-clause-agrees : goal.returns-clause-agrees
returns-clause-agrees c = session_open

pub returns-clause-end : goal.returns-clause-end
returns-clause-end c = session_end
