use Rattle.wtp_fields.proofs.FieldListWriting.{list_again, fields_again, one_list, request_good, request_map, status_again}
use Rattle.wtp_fields.proofs.laws.fields.sent_lists.Goals as goal

pub returns : goal.returns
returns c = record { again = list_again; map_again = fields_again; only = one_list; request = request_good; map = request_map; status = status_again }
