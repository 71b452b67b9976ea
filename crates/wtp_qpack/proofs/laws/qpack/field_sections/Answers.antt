use Rattle.wtp_qpack.proofs.RoundTrip.{section_again}
use Rattle.wtp_qpack.proofs.SectionLaws.{section_read, section_found, section_cut, section_fault, fault_found}
use Rattle.wtp_qpack.proofs.laws.qpack.field_sections.Goals as goal

pub returns-clause-read : goal.returns-clause-read
returns-clause-read c = section_read

pub returns-clause-found : goal.returns-clause-found
returns-clause-found c = section_found

pub returns-clause-cut : goal.returns-clause-cut
returns-clause-cut c = section_cut

pub returns-clause-fault : goal.returns-clause-fault
returns-clause-fault c = section_fault

pub returns-clause-fault_found : goal.returns-clause-fault_found
returns-clause-fault_found c = fault_found

pub returns-clause-written : goal.returns-clause-written
returns-clause-written c = section_again
