use Rattle.vesgrauf.proofs.JoinedLemmas.{finishing_not_severed, known_not_severed, open_not_severed, read_not_severed}
use Rattle.vesgrauf.proofs.laws.wrong_severances_are_refused.Goals as goal

pub returns-clause-open : goal.returns-clause-open
returns-clause-open c = open_not_severed

pub returns-clause-finishing : goal.returns-clause-finishing
returns-clause-finishing c = finishing_not_severed

pub returns-clause-known : goal.returns-clause-known
returns-clause-known c = known_not_severed

pub returns-clause-reads : goal.returns-clause-reads
returns-clause-reads c = read_not_severed
