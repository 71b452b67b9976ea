use Rattle.wtp_webtransport.proofs.ProgressLemmas.{call_nears, calls_few}
use Rattle.wtp_webtransport.proofs.laws.calls_end.Goals as goal

pub returns-clause-call : goal.returns-clause-call
returns-clause-call c = call_nears

pub returns-clause-all : goal.returns-clause-all
returns-clause-all c = calls_few
