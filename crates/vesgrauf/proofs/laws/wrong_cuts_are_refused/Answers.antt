use Rattle.vesgrauf.proofs.CutLemmas.{none_cut, not_known, not_read, not_sending}
use Rattle.vesgrauf.proofs.laws.wrong_cuts_are_refused.Goals as goal

pub returns-clause-sends : goal.returns-clause-sends
returns-clause-sends c = not_sending

pub returns-clause-known : goal.returns-clause-known
returns-clause-known c = not_known

pub returns-clause-reads : goal.returns-clause-reads
returns-clause-reads c = not_read

pub returns-clause-forgotten : goal.returns-clause-forgotten
returns-clause-forgotten c = none_cut
