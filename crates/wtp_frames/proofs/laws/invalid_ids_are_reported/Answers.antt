use Rattle.std.proofs.Common.{refl, None}
use Rattle.wtp_frames.specs.declared.fault.Fault.TheVariants as fault
use Rattle.wtp_frames.specs.Grammar.{last_goaway, last_push}
use Rattle.wtp_frames.proofs.RowLemmas.{id_row, no_request, goaway_rises, push_falls, limit_server}
use Rattle.wtp_frames.proofs.laws.invalid_ids_are_reported.Goals as goal
use Rattle.std.proofs.Common.{length}

pub returns-clause-cancelled : goal.returns-clause-cancelled
returns-clause-cancelled c = λ e settings f ids n s is enc. id_row e settings f ids 0x03 n fault.Id s is enc refl refl

pub returns-clause-goaway_of_no_request : goal.returns-clause-goaway_of_no_request
returns-clause-goaway_of_no_request c = λ e settings f ids n s is enc side h. id_row e settings f ids 0x07 n fault.Id s is enc refl (no_request e.side (last_goaway None ids) (last_push None ids) n side h)

pub returns-clause-goaway_rises : goal.returns-clause-goaway_rises
returns-clause-goaway_rises c = λ e settings f ids n last s is enc at l. id_row e settings f ids 0x07 n fault.Id s is enc refl (goaway_rises e.side (last_goaway None ids) (last_push None ids) n last at l)

pub returns-clause-max_push_id_falls : goal.returns-clause-max_push_id_falls
returns-clause-max_push_id_falls c = λ e settings f ids n last s is enc side at l. id_row e settings f ids 0x0d n fault.Id s is enc (limit_server e (length f.payload) side) (push_falls (last_goaway None ids) (last_push None ids) n last at l)
