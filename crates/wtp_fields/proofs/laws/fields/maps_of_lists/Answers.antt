use Rattle.wtp_fields.proofs.FieldListLaws.{list_map, list_fault, list_value, list_status}
use Rattle.wtp_fields.proofs.laws.fields.maps_of_lists.Goals as goal

pub returns-clause-map : goal.returns-clause-map
returns-clause-map c = list_map

pub returns-clause-fault : goal.returns-clause-fault
returns-clause-fault c = list_fault

pub returns-clause-value : goal.returns-clause-value
returns-clause-value c = list_value

pub returns-clause-status : goal.returns-clause-status
returns-clause-status c = list_status
