use Rattle.wtp_dynamic_encoder.proofs.Acknowledged.{stands_join, breaks_join, breaks_more, stands_only, stands_or_breaks, breaks_only}
use Rattle.wtp_dynamic_encoder.proofs.laws.pieces_of_decoder_streams.Goals as goal

pub returns-clause-piece : goal.returns-clause-piece
returns-clause-piece c = stands_join

pub returns-clause-fault : goal.returns-clause-fault
returns-clause-fault c = breaks_join

pub returns-clause-over : goal.returns-clause-over
returns-clause-over c = breaks_more

pub returns-clause-only : goal.returns-clause-only
returns-clause-only c = stands_only

pub returns-clause-either : goal.returns-clause-either
returns-clause-either c = stands_or_breaks

pub returns-clause-one_fault : goal.returns-clause-one_fault
returns-clause-one_fault c = breaks_only
