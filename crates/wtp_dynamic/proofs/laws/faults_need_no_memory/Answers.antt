use Rattle.wtp_dynamic.proofs.Needs.{capacity_needs_none, fault_needs_none, lacks_after}
use Rattle.wtp_dynamic.proofs.laws.faults_need_no_memory.Goals as goal

pub returns-clause-capacity : goal.returns-clause-capacity
returns-clause-capacity c = capacity_needs_none

pub returns-clause-fault : goal.returns-clause-fault
returns-clause-fault c = fault_needs_none

pub returns-clause-later : goal.returns-clause-later
returns-clause-later c = lacks_after
