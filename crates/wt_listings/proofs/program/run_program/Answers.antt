use Rattle.std.proofs.Common.{Err, ap, sym, ◌∙◌}
use Rattle.wt_listings.specs.declared.program.Fault.{Fault}
use Rattle.wt_listings.proofs.ProgramLemmas.{usage-status}
use Rattle.wt_listings.proofs.program.run_program.Goals as goal

pub returns-in-Err-clause-no_usage : goal.returns-in-Err-clause-no_usage
returns-in-Err-clause-no_usage g c = λ status. c.in-Err.ensures.no_usage (ap (λ (f : Fault). Err f) (usage-status c.in-Err.fault (sym c.status.ensures ∙ status)))
