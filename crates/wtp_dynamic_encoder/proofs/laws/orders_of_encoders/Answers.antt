use Rattle.wtp_dynamic_encoder.proofs.Read.{orders_read}
use Rattle.wtp_dynamic_encoder.proofs.Orders.{ordered_silent}
use Rattle.wtp_dynamic_encoder.proofs.laws.orders_of_encoders.Goals as goal

pub returns-clause-read : goal.returns-clause-read
returns-clause-read c = orders_read

pub returns-clause-silent : goal.returns-clause-silent
returns-clause-silent c = ordered_silent
