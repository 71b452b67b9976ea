use Rattle.wtp_connection.proofs.BudgetLemmas.{excess_found, excess_alone, all_kept}
use Rattle.wtp_connection.proofs.laws.excessive_resets_are_reported.Goals as goal

pub returns-clause-found : goal.returns-clause-found
returns-clause-found c = excess_found

pub returns-clause-alone : goal.returns-clause-alone
returns-clause-alone c = excess_alone

pub returns-clause-kept : goal.returns-clause-kept
returns-clause-kept c = all_kept
