use Rattle.wtp_connection.proofs.ResumptionLemmas.{all_kept, capacity_lost, limits_lost}
use Rattle.wtp_connection.proofs.laws.remembered_settings_are_kept.Goals as goal

pub returns-clause-kept : goal.returns-clause-kept
returns-clause-kept c = all_kept

pub returns-clause-capacity : goal.returns-clause-capacity
returns-clause-capacity c = capacity_lost

pub returns-clause-limits : goal.returns-clause-limits
returns-clause-limits c = limits_lost
